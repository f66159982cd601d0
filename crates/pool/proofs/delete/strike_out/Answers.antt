-- `strike_out` meets its contract: the entries, then the flags. Assumes nothing.
use Rattle.pool.proofs.Deleting.{strikes-out}
use Rattle.pool.proofs.delete.strike_out.Goals as goal

pub returns : goal.returns
returns c = search (strikes-out)
