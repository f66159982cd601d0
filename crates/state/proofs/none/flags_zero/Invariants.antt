-- `flags_zero` meets its contract. The loop's invariant: the flags still to be read decide. Assumes nothing.
use Prim.Native.Nat.{ℕ, suc, ◌-◌}
use mathlib.Core.Bool.{Bool}
use mathlib.Core.List.{List}
use lib.Dec.{eqb}
use Rattle.model.specs.Sizes.{blocks}
use Rattle.model.specs.Lists.{◌!◌, all, count_from}
use Rattle.model.specs.Kernel.{slot}
use Rattle.model.proofs.Loops.{Left}
use Rattle.model.specs.Words.{kernel}
use Rattle.state.proofs.none.flags_zero.Given as goal

abbrev pub test : List ℕ → ℕ → Bool
test w b = eqb ((kernel w).pools.taken ! slot 0 b) 0

abbrev pub whole : List ℕ → Bool
whole w = all (test w) (count_from 0 (suc blocks))

abbrev pub invariant-loop-b : goal.invariant-loop-b
invariant-loop-b l = Left (whole l.state) (test l.state) blocks l.b

abbrev pub decreases-loop-b : goal.decreases-loop-b
decreases-loop-b l = suc blocks - l.b
