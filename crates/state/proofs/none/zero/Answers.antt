-- `zero` meets its contract: it reads entry 0. Assumes nothing.
use mathlib.Core.Path.{ap}
use Prim.Native.Nat.{ℕ}
use lib.Dec.{eqb}
use Rattle.state.proofs.none.zero.Goals as goal

pub returns : goal.returns
returns c = ap (λ (v : ℕ). eqb v 0) c.get.ensures
