-- `run_all` meets its contract: after each turn, what more turns leave is what they leave from there on. Assumes nothing.
use Prim.Native.Nat.{◌-◌}
use mathlib.Core.Path.{◌∙◌, ap}
use Rattle.std.specs.Prelude.{Ok}
use borrow.Author.Rules.{rules}
use Rattle.run.proofs.Turning.{at_first, goes_on, ends, cut-short, all_done}
use Rattle.shinepod.proofs.run_all.Goals as goal

pub loop-init : goal.loop-init
loop-init c = (search rules, at_first _ _)

pub returns-in_err-next : goal.returns-in_err-next
returns-in_err-next c =
    let l = c.loop in
    cut-short _ _ _ _ l.counter l.invariant.1 c.take_turn.ensures _ c.from_residual.ensures.0

pub returns-in_default : goal.returns-in_default
returns-in_default c =
    let l = c.loop in
    ends _ _ _ _ l.counter l.invariant.1 c.take_turn.ensures (c.in_ok-next.was ∙ ap Ok c.in_default.is)

pub loop-preserved : goal.loop-preserved
loop-preserved c =
    let l = c.loop in
    (search rules, goes_on _ _ _ _ l.counter l.invariant.1 c.take_turn.ensures _ (c.in_ok-next.was ∙ ap Ok c.in-Some.is))

pub returns : goal.returns
returns c = let l = c.loop in all_done _ _ _ _ l.counter l.invariant.1 c.loop-test.false
