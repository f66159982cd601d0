-- `with_priority` meets its contract: the bit is set by `|`, and taken away again where it is not to be set. Assumes nothing.
use mathlib.Core.Path.{◌∙◌, sym, ap}
use Rattle.model.specs.Queue.{with_priority}
use Rattle.ready.proofs.ReadyLaws.{priority-none, priority-beyond, priority-set, priority-below, priority-cleared}
use Rattle.ready.proofs.bit.with_priority.Goals as goal

pub returns-then-p-eq0 : goal.returns-then-p-eq0
returns-then-p-eq0 c = priority-none _ _ _ c.if-p-eq0.true

pub returns-then-p-gt-PRIORITIES : goal.returns-then-p-gt-PRIORITIES
returns-then-p-gt-PRIORITIES c = priority-beyond _ _ _ c.if-p-gt-PRIORITIES.true

pub overflow_sub-result : goal.overflow_sub-result
overflow_sub-result c = priority-below c.args.word _ c.if-p-eq0.false c.if-p-gt-PRIORITIES.false

pub returns-then-on : goal.returns-then-on
returns-then-on c =
    let a = c.args in
    priority-set _ _ c.if-p-eq0.false c.if-p-gt-PRIORITIES.false ∙ ap (with_priority a.word a.p) (sym c.if-on.true)

pub returns-else-on : goal.returns-else-on
returns-else-on c =
    let a = c.args in
    priority-cleared _ _ c.if-p-eq0.false c.if-p-gt-PRIORITIES.false ∙ ap (with_priority a.word a.p) (sym c.if-on.false)
