-- `put_current` meets its contract: it stores in its field. Assumes nothing.
use native.Mathlib.Omega.{arith}
use mathlib.Core.Path.{refl}
use borrow.Author.Rules.{rules}
use Rattle.model.specs.Kernel.{with_current}
use Rattle.model.specs.Words.{kernel, sizes, from_fields}
use Rattle.model.specs.Field as field
use Rattle.state.proofs.Accessor.{put}
use Rattle.state.proofs.task.put_current.Goals as goal

pub put-requires : goal.put-requires
unfolding kernel sizes from_fields with_current
put-requires c = omega arith

pub returns : goal.returns
unfolding kernel sizes from_fields with_current
returns c = let a = c.args in put a.state.now field.current a.v c.put.ensures refl (search rules)
