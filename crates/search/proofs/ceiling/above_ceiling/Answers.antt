-- `above_ceiling` meets its contract: the fields read are the model's, and the ceiling picks the case. Assumes nothing.
use native.Mathlib.Omega.{arith}
use mathlib.Core.Path.{◌≡◌, refl}
use mathlib.Core.Bool.{Bool, true, false, ◌&&◌}
use borrow.Author.Tests.{lt-ltb, le-ltb}
use Rattle.search.proofs.ceiling.above_ceiling.Goals as goal

and_false : (b : Bool) → false ≡ b && false
and_false true = refl
and_false false = refl

and_true : (b : Bool) → b ≡ b && true
and_true true = refl
and_true false = refl

pub returns-then-top-base : goal.returns-then-top-base
returns-then-top-base c = rw (← c.ceiling-top.ensures, le-ltb c.args.base c.ceiling-top.result c.if-top-base.true) (and_false _)

pub returns : goal.returns
returns c =
    rw (← c.ceiling-top.ensures, ← c.attribute-attribute.ensures, ← c.holder-holder.ensures, ← c.word.ensures, ← c.word-n.ensures, lt-ltb c.args.base c.ceiling-top.result (omega (arith, c.if-top-base.false)))
    (and_true _)
