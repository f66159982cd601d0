-- `arrivals` meets its contract: each test answers its own part. Assumes nothing.
use Rattle.model.specs.Valid.{arrivals}
use Rattle.valid.proofs.arrival.arrivals.Goals as goal

pub returns : goal.returns
unfolding arrivals
returns c = rw (c.zeros_last.ensures, c.all_started.ensures, c.each_stands_once.ensures)
