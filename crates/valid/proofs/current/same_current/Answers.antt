-- `same_current` meets its contract: both are read. Assumes nothing.

use Rattle.valid.proofs.current.same_current.Goals as goal

pub returns : goal.returns
returns c = rw (c.current-2.ensures, c.current.ensures)
