-- `chosen_task` meets its contract: the field is 0 or not. Assumes nothing.
use mir.Facts.{to_z-of_z}
use Rattle.task.proofs.Changing.{task-caller, task-other}
use Rattle.task.proofs.change.chosen_task.Goals as goal

pub returns-then-n-eq0 : goal.returns-then-n-eq0
returns-then-n-eq0 c = search (task-caller, to_z-of_z)

pub returns : goal.returns
returns c = search (task-other, to_z-of_z)
