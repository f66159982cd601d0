-- `recompute` meets its contract: the bits are renewed once the priorities are worked out. Assumes nothing.
use Rattle.priority.proofs.WordLaws.{recomputes}
use Rattle.priority.proofs.recompute.Goals as goal

pub returns : goal.returns
returns c = recomputes _ c.work_out.ensures c.renew_bits.ensures
