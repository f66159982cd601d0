-- `taken` meets its contract: it reads its field. Assumes nothing.
use native.Mathlib.Omega.{arith}
use borrow.Author.Rules.{rules}
use Rattle.model.specs.Words.{kernel, sizes, from_fields}
use Rattle.model.specs.Field as field
use Rattle.state.proofs.Accessor.{got}
use Rattle.state.proofs.pool.taken.Goals as goal

pub flag-requires : goal.flag-requires
unfolding kernel sizes from_fields
flag-requires c = search rules

pub get-requires : goal.get-requires
unfolding kernel sizes from_fields
get-requires c = omega arith

pub returns : goal.returns
unfolding kernel sizes from_fields
returns c = got c.args.state.now field.taken c.get.ensures c.flag.ensures
