-- `times` meets its contract. The loop's invariant: those counted and those in the places that are left are all. Assumes nothing.
use Rattle.state.proofs.WordLaws.{long, arrivals-long}
use Rattle.valid.proofs.Arrivals.{count-all, count_fits, count-more, count-done}
use Rattle.valid.proofs.arrival.times.Goals as goal

pub loop-i-init : goal.loop-i-init
loop-i-init c = search count-all

pub overflow_add-count : goal.overflow_add-count
overflow_add-count c = search count_fits

pub loop-i-preserved : goal.loop-i-preserved
loop-i-preserved c = search (long, count-more, arrivals-long)

pub returns : goal.returns
returns c = search (long, count-done, arrivals-long)
