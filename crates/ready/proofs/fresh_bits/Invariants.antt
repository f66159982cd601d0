-- `fresh_bits` meets its contract. The loop's invariant: the tasks from n on have still to add their bits. Assumes nothing.
use Prim.Native.Nat.{suc, ◌-◌}
use Rattle.model.specs.Sizes.{tasks}
use Rattle.model.specs.Words.{kernel}
use Rattle.ready.proofs.ReadyLaws.{Adding}
use Rattle.ready.proofs.fresh_bits.Given as goal

abbrev pub invariant-loop-n : goal.invariant-loop-n
invariant-loop-n l = Adding (kernel l.state) l.word l.n

abbrev pub decreases-loop-n : goal.decreases-loop-n
decreases-loop-n l = suc tasks - l.n
