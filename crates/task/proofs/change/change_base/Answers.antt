-- `change_base` meets its contract: its steps are those of the definition. Assumes nothing.
use Rattle.task.proofs.Changing.{base-changed}
use Rattle.task.proofs.change.change_base.Goals as goal

pub returns : goal.returns
returns c = search base-changed
