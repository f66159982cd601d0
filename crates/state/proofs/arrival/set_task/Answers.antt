-- `set_task` meets its contract: it stores in its field. Assumes nothing.
use mathlib.Core.Path.{refl}
use native.Mathlib.Omega.{arith}
use borrow.Author.Rules.{rules}
use Rattle.model.specs.Kernel.{with_arrivals}
use Rattle.model.specs.Words.{kernel, sizes, from_fields}
use Rattle.model.specs.Field as field
use Rattle.state.proofs.Accessor.{put}
use Rattle.state.proofs.arrival.set_task.Goals as goal

pub put-requires : goal.put-requires
unfolding kernel sizes from_fields with_arrivals
put-requires c = omega arith

pub returns : goal.returns
unfolding kernel sizes from_fields with_arrivals
returns c = let a = c.args in put a.state.now field.arrivals a.v c.put.ensures refl (search rules)
