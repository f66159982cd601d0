-- `locking_task` meets its contract: the fields read are the model's. Assumes nothing.
use Rattle.model.specs.Valid.{locking_task}
use Rattle.valid.proofs.wait.locking_task.Goals as goal

pub returns : goal.returns
unfolding locking_task
returns c = cc
