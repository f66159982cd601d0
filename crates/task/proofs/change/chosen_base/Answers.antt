-- `chosen_base` meets its contract: the field is 0 or not. Assumes nothing.
use mir.Facts.{to_z-of_z}
use Rattle.task.proofs.Changing.{base-initial, base-field}
use Rattle.task.proofs.change.chosen_base.Goals as goal

pub returns-then-p-eq0 : goal.returns-then-p-eq0
returns-then-p-eq0 c = search (base-initial, to_z-of_z)

pub returns : goal.returns
returns c = search (base-field, to_z-of_z)
