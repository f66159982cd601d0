-- `start_from_bases` meets its contract. The loop's invariant: the tasks passed have their base priorities. Assumes nothing.
use Prim.Native.Nat.{◌≤◌, ◌-◌}
use Rattle.model.specs.Sizes.{tasks}
use Rattle.model.specs.Words.{kernel}
use Rattle.state.specs.Words.{Represents}
use Rattle.priority.proofs.StartLaws.{bases_so_far}
use Rattle.priority.proofs.start_from_bases.Given as goal

abbrev pub invariant-loop-n : goal.invariant-loop-n
invariant-loop-n l = Represents l.state (bases_so_far (kernel l.initial.state) l.n) × (l.n ≤ tasks)

abbrev pub decreases-loop-n : goal.decreases-loop-n
decreases-loop-n l = tasks - l.n
