-- `times` meets its contract. The loop's invariant: those counted and those in the places that are left are all. Assumes nothing.
use Prim.Native.Nat.{◌-◌}
use Rattle.model.specs.Sizes.{tasks}
use Rattle.model.specs.Words.{kernel}
use Rattle.valid.proofs.Arrivals.{Counted}
use Rattle.valid.proofs.arrival.times.Given as goal

abbrev pub invariant-loop-i : goal.invariant-loop-i
invariant-loop-i l = Counted l.u (kernel l.state).arrivals l.count l.i

abbrev pub decreases-loop-i : goal.decreases-loop-i
decreases-loop-i l = tasks - l.i
