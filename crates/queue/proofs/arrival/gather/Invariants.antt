-- `gather` meets its contract. The loop's invariant: the places seen are gathered, and j counts the others among them. Assumes nothing.
use Prim.Native.Nat.{◌-◌}
use Rattle.model.specs.Sizes.{tasks}
use Rattle.queue.proofs.ArrivingLaws.{Gathering}
use Rattle.queue.proofs.arrival.gather.Given as goal

abbrev pub invariant-loop-i : goal.invariant-loop-i
invariant-loop-i l = Gathering l.t.0 l.initial.state l.state l.j l.i

abbrev pub decreases-loop-i : goal.decreases-loop-i
decreases-loop-i l = tasks - l.i
