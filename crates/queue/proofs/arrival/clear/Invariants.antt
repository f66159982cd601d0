-- `clear` meets its contract. The loop's invariant: the places passed are none's. Assumes nothing.
use Prim.Native.Nat.{◌-◌}
use Rattle.model.specs.Sizes.{tasks}
use Rattle.queue.proofs.ArrivingLaws.{Clearing}
use Rattle.queue.proofs.arrival.clear.Given as goal

abbrev pub invariant-loop-i : goal.invariant-loop-i
invariant-loop-i l = Clearing l.initial.state l.state l.from l.i

abbrev pub decreases-loop-i : goal.decreases-loop-i
decreases-loop-i l = tasks - l.i
