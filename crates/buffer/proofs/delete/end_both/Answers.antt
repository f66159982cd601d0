-- `end_both` meets its contract: waits that end one list after the other end as one list. Assumes nothing.
use Rattle.buffer.proofs.Deleting.{ends-both}
use Rattle.buffer.proofs.delete.end_both.Goals as goal

pub returns : goal.returns
returns c = ends-both _ _ c.end_waits-next.ensures c.end_waits.ensures
