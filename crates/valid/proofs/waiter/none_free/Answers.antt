-- `none_free` meets its contract: a word that names no pool has no blocks. Assumes nothing.
use Rattle.valid.proofs.Waiters.{free-none, free-there}
use Rattle.valid.proofs.waiter.none_free.Goals as goal

pub returns-in_default : goal.returns-in_default
returns-in_default c = search free-none

pub returns : goal.returns
returns c = search free-there
