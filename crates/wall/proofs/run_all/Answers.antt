-- `run_all` meets its contract: after each record, what more records leave is what they leave from there on. Assumes nothing.
use borrow.Author.Rules.{rules}
use mathlib.Core.Path.{refl}
use Rattle.wall.proofs.Ending.{at_first, goes_on, ends, all_done}
use Rattle.wall.proofs.run_all.Goals as goal

pub loop-init : goal.loop-init
loop-init c = (search rules, at_first _ _)

pub returns-in-Over : goal.returns-in-Over
returns-in-Over c =
    let l = c.loop in
    ends _ _ _ _ l.counter l.invariant.1 c.run_record-ran.ensures c.loop-test.true c.in-Over.is refl

pub returns-in-NoArea : goal.returns-in-NoArea
returns-in-NoArea c =
    let l = c.loop in
    ends _ _ _ _ l.counter l.invariant.1 c.run_record-ran.ensures c.loop-test.true c.in-NoArea.is refl

pub loop-preserved : goal.loop-preserved
loop-preserved c =
    let l = c.loop in
    (search rules, goes_on _ _ _ _ l.counter l.invariant.1 c.run_record-ran.ensures _ _ c.loop-test.true c.in-Answered.is)

pub returns : goal.returns
returns c = let l = c.loop in all_done _ _ _ _ l.counter l.invariant.1 c.loop-test.false
