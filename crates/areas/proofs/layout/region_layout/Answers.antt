-- `region_layout` meets its contract. The loop's invariant: the messages that are left decide. Assumes nothing.
use Prim.Native.Nat.{◌≤◌}
use mathlib.Core.Logic.{◌≢◌}
use Rattle.model.specs.Sizes.{region_bytes}
use Rattle.areas.proofs.Messages.{rest-start, rest-stop, rest-fits, rest_more, rest-done}
use Rattle.areas.proofs.layout.region_layout.Goals.{else-loop-test, then-loop-test+then-left-eq0}
use Rattle.areas.proofs.layout.region_layout.Goals as goal

pub loop-init : goal.loop-init
loop-init c = rest-start _ _ _ _

pub returns-then-not-oldest_laid_out : goal.returns-then-not-oldest_laid_out
returns-then-not-oldest_laid_out c =
    rest-stop c.loop.invariant c.if-left-eq0.false c.loop-test.true c.oldest_laid_out.ensures c.if-not-oldest_laid_out.true

pub overflow_sub-left : goal.overflow_sub-left
overflow_sub-left c =
    rest-fits c.loop.invariant c.if-left-eq0.false c.loop-test.true c.oldest_laid_out.ensures c.if-not-oldest_laid_out.false
    c.oldest_length.ensures c.cost-gone.ensures c.behind-rest.ensures

pub loop-preserved : goal.loop-preserved
loop-preserved c =
    rest_more c.loop.invariant c.if-left-eq0.false c.loop-test.true c.oldest_laid_out.ensures c.if-not-oldest_laid_out.false
    c.oldest_length.ensures c.cost-gone.ensures c.behind-rest.ensures

pub returns : goal.returns
returns c =
    let over : c.loop.left ≢ 0 → region_bytes ≤ c.loop.counter =
    elim c.loop-test.branch [
      | else-loop-test w ↦ λ some. w.loop-test.false
      | then-loop-test+then-left-eq0 w ↦ λ some. absurd (some w.if-left-eq0.true)
    ] in
    rest-done c.loop.invariant over c.all_zero.ensures
