-- `zeros_last` meets its contract. The loop's invariant: the places that are left decide. Assumes nothing.
use Rattle.state.proofs.WordLaws.{long, arrivals-long}
use Rattle.valid.proofs.Arrivals.{gap-all, gap-stop, gap_more, gap-done}
use Rattle.valid.proofs.arrival.zeros_last.Goals as goal

pub loop-i-init : goal.loop-i-init
loop-i-init c = search (long, gap-all, arrivals-long)

pub returns-then-ended-t : goal.returns-then-ended-t
returns-then-ended-t c = search (long, gap-stop, arrivals-long)

pub loop-i-preserved : goal.loop-i-preserved
loop-i-preserved c = search (long, gap_more, arrivals-long)

pub returns : goal.returns
returns c = search (long, gap-done, arrivals-long)
