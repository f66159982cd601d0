-- `first` meets its contract: the numbers that are left decide. Assumes nothing.
use native.Mathlib.Omega.{arith}
use mathlib.Core.Path.{◌∙◌, sym, ap}
use Rattle.model.specs.Lists.{first_where}
use Rattle.model.specs.Number.{maybe_number}
use Rattle.model.proofs.NumberLaws.{number-some, number-none}
use Rattle.model.proofs.Rest.{rest_all, rest-over, first-stop, first-more}
use Rattle.model.proofs.number.Number.first.Goals as goal

pub loop-n-init : goal.loop-n-init
loop-n-init g c = rest_all (first_where g.p) _

pub returns-then-test : goal.returns-then-test
returns-then-test g c =
    number-some _ ∙ ap maybe_number (sym (first-stop g.p _ _ (omega (arith, c.LAST-n-end.ensures)) (c.requires.1.1.1 _ _ (omega (arith, c.LAST-n-end.ensures)) c.test.ensures) c.loop-n.invariant c.if-test.true))

pub loop-n-preserved : goal.loop-n-preserved
loop-n-preserved g c =
    first-more g.p _ _ (omega (arith, c.LAST-n-end.ensures)) (c.requires.1.1.1 _ _ (omega (arith, c.LAST-n-end.ensures)) c.test.ensures) c.loop-n.invariant c.if-test.false

pub returns : goal.returns
returns g c = number-none ∙ ap maybe_number (sym (rest-over (first_where g.p) _ _ c.loop-n.invariant (omega (arith, c.LAST-n-end.ensures))))
