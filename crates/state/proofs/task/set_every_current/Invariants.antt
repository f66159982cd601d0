-- `set_every_current` meets its contract. The loop's invariant: the tasks passed have the number. Assumes nothing.
use Prim.Native.Nat.{◌-◌}
use Rattle.model.specs.Sizes.{tasks}
use Rattle.state.proofs.Currents.{CurrentsFilled}
use Rattle.state.proofs.task.set_every_current.Given as goal

abbrev pub invariant-loop-n : goal.invariant-loop-n
invariant-loop-n l = CurrentsFilled l.initial.state l.state l.v l.n

abbrev pub decreases-loop-n : goal.decreases-loop-n
decreases-loop-n l = tasks - l.n
