-- `bits` meets its contract: it reads its field. Assumes nothing.
use mathlib.Core.Path.{refl}
use native.Mathlib.Omega.{arith}
use Rattle.model.specs.Words.{kernel, sizes, from_fields}
use Rattle.model.specs.Field as field
use Rattle.state.proofs.Accessor.{got}
use Rattle.state.proofs.bitmap.bits.Goals as goal

pub get-requires : goal.get-requires
unfolding kernel sizes from_fields
get-requires c = omega arith

pub returns : goal.returns
unfolding kernel sizes from_fields
returns c = got c.args.state.now field.bitmap c.get.ensures refl
