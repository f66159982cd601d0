-- `tick_task` meets its contract: the milliseconds left pick the case. Assumes nothing.
use Rattle.act.proofs.Tasks.{ticks-more}
use Rattle.act.proofs.Tasks.{ticks-last}
use Rattle.act.proofs.Tasks.{ticks-endless}
use Rattle.act.proofs.Tasks.{ticks-none}
use Rattle.act.proofs.task.tick_task.Goals as goal

pub returns-then-left-eq0 : goal.returns-then-left-eq0
returns-then-left-eq0 c = ticks-none _ c.left-left.ensures c.if-left-eq0.true

pub returns-then-left : goal.returns-then-left
returns-then-left c = ticks-endless _ c.left-left.ensures c.if-left.true

pub returns-then-left-eq1 : goal.returns-then-left-eq1
returns-then-left-eq1 c =
    ticks-last _ c.left-left.ensures
    c.if-left-eq1.true
    c.end_wait.ensures

pub returns : goal.returns
returns c =
    ticks-more _ c.left-left.ensures c.if-left-eq0.false
    c.if-left.false c.if-left-eq1.false c.set_left.ensures
