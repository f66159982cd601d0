-- `strike_out` meets its contract: the entries and the region become zero. Assumes nothing.
use Rattle.buffer.proofs.Deleting.{strikes-out}
use Rattle.buffer.proofs.delete.strike_out.Goals as goal

pub returns : goal.returns
returns c = search (strikes-out)
