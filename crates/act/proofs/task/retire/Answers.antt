-- `retire` meets its contract: its steps are those of the definition. Assumes nothing.
use Rattle.act.proofs.Tasks.{retires}
use Rattle.act.proofs.task.retire.Goals as goal

pub returns : goal.returns
returns c = search retires
