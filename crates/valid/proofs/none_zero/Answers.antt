-- `none_zero` meets its contract: each test answers for its lists. Assumes nothing.

use Rattle.valid.proofs.none_zero.Goals as goal

pub returns : goal.returns
returns c = rw (c.pools_zero.ensures, c.buffers_zero.ensures, c.mutexes_zero.ensures, c.tasks_zero.ensures)
