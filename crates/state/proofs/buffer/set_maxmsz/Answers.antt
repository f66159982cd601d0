-- `set_maxmsz` meets its contract: it stores in its field. Assumes nothing.
use native.Mathlib.Omega.{arith}
use borrow.Author.Rules.{rules}
use Rattle.model.specs.Kernel.{with_maxmsz}
use Rattle.model.specs.Words.{kernel, sizes, from_fields}
use Rattle.model.specs.Field as field
use Rattle.state.proofs.Accessor.{put}
use Rattle.state.proofs.buffer.set_maxmsz.Goals as goal

pub word-requires : goal.word-requires
unfolding kernel sizes from_fields with_maxmsz
word-requires c = search rules

pub overflow_cast-word : goal.overflow_cast-word
unfolding kernel sizes from_fields with_maxmsz
overflow_cast-word c = search rules

pub put-requires : goal.put-requires
unfolding kernel sizes from_fields with_maxmsz
put-requires c = omega arith

pub returns : goal.returns
unfolding kernel sizes from_fields with_maxmsz
returns c = let a = c.args in
    put a.state.now field.maxmsz a.v c.put.ensures c.word.ensures (search rules)
