-- `own_priority` meets its contract. The loop's invariant: the most urgent of the base and of the ceilings held of the mutexes passed. Assumes nothing.
use mathlib.Core.Path.{◌≡◌}
use Prim.Native.Nat.{◌≤◌, ◌-◌}
use Rattle.model.specs.Sizes.{mutexes}
use Rattle.model.specs.Words.{kernel}
use Rattle.priority.proofs.OwnLaws.{own_so_far}
use Rattle.priority.proofs.own.own_priority.Given as goal

abbrev pub invariant-loop-n : goal.invariant-loop-n
invariant-loop-n l = (l.p ≡ own_so_far (kernel l.state) l.t.0 l.n) × (l.n ≤ mutexes)

abbrev pub decreases-loop-n : goal.decreases-loop-n
decreases-loop-n l = mutexes - l.n
