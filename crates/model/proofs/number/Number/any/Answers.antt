-- `any` meets its contract: the numbers that are left decide. Assumes nothing.
use native.Mathlib.Omega.{arith}
use mathlib.Core.Path.{sym}
use Rattle.model.specs.Lists.{any}
use Rattle.model.proofs.Rest.{rest_all, rest-over, any-stop, any-more}
use Rattle.model.proofs.number.Number.any.Goals as goal

pub loop-n-init : goal.loop-n-init
loop-n-init g c = rest_all (any g.p) _

pub returns-then-test : goal.returns-then-test
returns-then-test g c =
    any-stop g.p _ _ (omega (arith, c.LAST-n-end.ensures)) (c.requires.1.1.1 _ _ (omega (arith, c.LAST-n-end.ensures)) c.test.ensures) c.loop-n.invariant c.if-test.true

pub loop-n-preserved : goal.loop-n-preserved
loop-n-preserved g c =
    any-more g.p _ _ (omega (arith, c.LAST-n-end.ensures)) (c.requires.1.1.1 _ _ (omega (arith, c.LAST-n-end.ensures)) c.test.ensures) c.loop-n.invariant c.if-test.false

pub returns : goal.returns
returns g c = sym (rest-over (any g.p) _ _ c.loop-n.invariant (omega (arith, c.LAST-n-end.ensures)))
