-- `receiving_task` meets its contract: the fields read are the model's. Assumes nothing.
use Rattle.model.specs.Valid.{receiving_task}
use Rattle.valid.proofs.waiter.receiving_task.Goals as goal

pub returns : goal.returns
unfolding receiving_task
returns c = cc
