-- `start_from_own` meets its contract. The loop's invariant: the holders of the mutexes passed have their own priorities, the other tasks their base priorities. Assumes nothing.
use Prim.Native.Nat.{◌≤◌, ◌-◌}
use Rattle.model.specs.Sizes.{mutexes}
use Rattle.model.specs.Words.{kernel}
use Rattle.state.specs.Words.{Represents}
use Rattle.priority.proofs.StartLaws.{holders_so_far}
use Rattle.priority.proofs.start_from_own.Given as goal

abbrev pub invariant-loop-n : goal.invariant-loop-n
invariant-loop-n l = Represents l.state (holders_so_far (kernel l.initial.state) l.n) × (l.n ≤ mutexes)

abbrev pub decreases-loop-n : goal.decreases-loop-n
decreases-loop-n l = mutexes - l.n
