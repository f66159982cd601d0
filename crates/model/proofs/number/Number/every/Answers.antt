-- `every` meets its contract: the numbers that are left decide. Assumes nothing.
use native.Mathlib.Omega.{arith}
use mathlib.Core.Path.{sym}
use Rattle.model.specs.Lists.{all}
use Rattle.model.proofs.Rest.{rest_all, rest-over, every-stop, every-more}
use Rattle.model.proofs.number.Number.every.Goals as goal

pub loop-n-init : goal.loop-n-init
loop-n-init g c = rest_all (all g.p) _

pub returns-then-not-test : goal.returns-then-not-test
returns-then-not-test g c =
    every-stop g.p _ _ (omega (arith, c.LAST-n-end.ensures)) (c.requires.1.1.1 _ _ (omega (arith, c.LAST-n-end.ensures)) c.test.ensures) c.loop-n.invariant c.if-not-test.true

pub loop-n-preserved : goal.loop-n-preserved
loop-n-preserved g c =
    every-more g.p _ _ (omega (arith, c.LAST-n-end.ensures)) (c.requires.1.1.1 _ _ (omega (arith, c.LAST-n-end.ensures)) c.test.ensures) c.loop-n.invariant c.if-not-test.false

pub returns : goal.returns
returns g c = sym (rest-over (all g.p) _ _ c.loop-n.invariant (omega (arith, c.LAST-n-end.ensures)))
