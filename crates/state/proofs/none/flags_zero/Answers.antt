-- `flags_zero` meets its contract. The loop's invariant: the flags still to be read decide. Assumes nothing.
use native.Mathlib.Omega.{arith}
use mathlib.Core.Path.{refl}
use borrow.Author.Tests.{not-true, not-false}
use Rattle.model.specs.Sizes.{blocks}
use Rattle.model.proofs.Loops.{left-more, left-stop, left-done}
use mathlib.Core.Bool.{not}
use mathlib.Core.Path.{ap}
use Rattle.state.proofs.none.flags_zero.Invariants.{test, whole}
use Rattle.state.proofs.none.flags_zero.Goals as goal

pub loop-b-init : goal.loop-b-init
loop-b-init c = (refl, omega arith)

pub returns-then-not-flag_zero : goal.returns-then-not-flag_zero
returns-then-not-flag_zero c =
    let w = c.args.state.now in
    left-stop (whole w) (test w) blocks c.loop-b.b c.loop-b.invariant (omega (arith, c.loop-b-test.true)) _ c.flag_zero.ensures (not-true _ (ap not c.if-not-flag_zero.true))

pub loop-b-preserved : goal.loop-b-preserved
loop-b-preserved c =
    let w = c.args.state.now in
    left-more (whole w) (test w) blocks c.loop-b.b c.loop-b.invariant (omega (arith, c.loop-b-test.true)) _ c.flag_zero.ensures (not-false _ (ap not c.if-not-flag_zero.false))

pub returns : goal.returns
returns c =
    let w = c.args.state.now in
    left-done (whole w) (test w) blocks c.loop-b.b c.loop-b.invariant (omega (arith, c.loop-b-test.false))
