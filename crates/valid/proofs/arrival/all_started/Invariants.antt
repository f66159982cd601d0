-- `all_started` meets its contract. The loop's invariant: the places that are left decide. Assumes nothing.
use Prim.Native.Nat.{◌-◌}
use Rattle.model.specs.Sizes.{tasks}
use Rattle.model.specs.Lists.{all}
use Rattle.model.specs.Words.{kernel}
use Rattle.valid.specs.Parts.{has_started}
use Rattle.model.proofs.Loops.{Over}
use Rattle.valid.proofs.arrival.all_started.Given as goal

abbrev pub invariant-loop-i : goal.invariant-loop-i
invariant-loop-i l = Over (all (has_started (kernel l.state))) (kernel l.state).arrivals l.i (all (has_started (kernel l.state)) (kernel l.state).arrivals)

abbrev pub decreases-loop-i : goal.decreases-loop-i
decreases-loop-i l = tasks - l.i
