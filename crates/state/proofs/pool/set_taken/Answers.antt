-- `set_taken` meets its contract: it stores in its field. Assumes nothing.
use native.Mathlib.Omega.{arith}
use borrow.Author.Rules.{rules}
use Rattle.model.specs.Kernel.{with_taken}
use Rattle.model.specs.Words.{kernel, sizes, from_fields}
use Rattle.model.specs.Field as field
use Rattle.state.proofs.Accessor.{put}
use Rattle.state.proofs.pool.set_taken.Goals as goal

pub flag-requires : goal.flag-requires
unfolding kernel sizes from_fields with_taken
flag-requires c = search rules

pub put-requires : goal.put-requires
unfolding kernel sizes from_fields with_taken
put-requires c = omega arith

pub returns : goal.returns
unfolding kernel sizes from_fields with_taken
returns c = let a = c.args in
    put a.state.now field.taken a.v c.put.ensures c.flag.ensures (search rules)
