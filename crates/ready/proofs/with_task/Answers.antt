-- `with_task` meets its contract: only a ready task sets a bit. Assumes nothing.
use mathlib.Core.Path.{◌∙◌}
use Rattle.ready.proofs.ReadyLaws.{adds-nothing, adds-bit}
use Rattle.ready.proofs.with_task.Goals as goal

pub returns-in_default : goal.returns-in_default
returns-in_default c = adds-nothing _ _ c.ready_task-found.ensures _ c.in_default.is

pub returns : goal.returns
returns c =
    c.with_priority.ensures
    ∙ adds-bit _ _ c.ready_task-found.ensures c.in-Some.is c.current.ensures _
