-- `strike_out` meets its contract: entry after entry, then priorities. Assumes nothing.
use Rattle.mutex.proofs.Deleting.{strikes-out}
use Rattle.mutex.proofs.delete.strike_out.Goals as goal

pub returns : goal.returns
returns c = search (strikes-out)
