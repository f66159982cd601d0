-- `all_started` meets its contract. The loop's invariant: the places that are left decide. Assumes nothing.
use Rattle.state.proofs.WordLaws.{long, arrivals-long}
use Rattle.model.proofs.Loops.{over-all}
use Rattle.valid.proofs.Arrivals.{started-more, started-stop, started-done}
use Rattle.valid.proofs.arrival.all_started.Goals as goal

pub loop-i-init : goal.loop-i-init
loop-i-init c = over-all _ _

pub returns-then-not-may_hold : goal.returns-then-not-may_hold
returns-then-not-may_hold c = search (long, started-stop, arrivals-long)

pub loop-i-preserved : goal.loop-i-preserved
loop-i-preserved c = search (long, started-more, arrivals-long)

pub returns : goal.returns
returns c = search (long, started-done, arrivals-long)
