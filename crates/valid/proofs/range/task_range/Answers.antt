-- `task_range` meets its contract: the fields read are the model's. Assumes nothing.
use Rattle.model.specs.Valid.{task_range}
use Rattle.valid.proofs.range.task_range.Goals as goal

pub returns : goal.returns
unfolding task_range
returns c = cc
