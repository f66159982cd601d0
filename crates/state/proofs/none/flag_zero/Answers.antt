-- `flag_zero` meets its contract: it reads its field. Assumes nothing.
use Prim.Native.Nat.{ℕ}
use native.Mathlib.Nat.{zero-add}
use native.Mathlib.Omega.{arith}
use mathlib.Core.Path.{ap, sym}
use lib.Dec.{eqb}
use Rattle.model.specs.Words.{kernel, sizes, from_fields}
use Rattle.model.specs.Field as field
use Rattle.state.proofs.Accessor.{got}
use Rattle.state.proofs.none.flag_zero.Goals as goal

pub get-requires : goal.get-requires
unfolding kernel sizes from_fields
get-requires c = omega arith

pub returns : goal.returns
unfolding kernel sizes from_fields
returns c = ap (λ (v : ℕ). eqb v 0) (got c.args.state.now field.taken c.get.ensures (sym (zero-add c.args.b)))
