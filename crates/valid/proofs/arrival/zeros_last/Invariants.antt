-- `zeros_last` meets its contract. The loop's invariant: the places that are left decide. Assumes nothing.
use Prim.Native.Nat.{◌-◌}
use Rattle.model.specs.Sizes.{tasks}
use Rattle.model.specs.Lists.{same, padded}
use Rattle.model.specs.Words.{kernel}
use Rattle.valid.specs.Parts.{given}
use Rattle.model.proofs.Loops.{Over}
use Rattle.valid.proofs.Arrivals.{gapless}
use Rattle.valid.proofs.arrival.zeros_last.Given as goal

abbrev pub invariant-loop-i : goal.invariant-loop-i
invariant-loop-i l = let a = (kernel l.state).arrivals in
    Over (gapless l.ended) a l.i (same a (padded tasks (given a)))

abbrev pub decreases-loop-i : goal.decreases-loop-i
decreases-loop-i l = tasks - l.i
