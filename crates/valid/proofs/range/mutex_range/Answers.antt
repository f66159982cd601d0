-- `mutex_range` meets its contract: the fields read are the model's. Assumes nothing.
use Rattle.model.specs.Valid.{mutex_range}
use Rattle.valid.proofs.range.mutex_range.Goals as goal

pub returns : goal.returns
unfolding mutex_range
returns c = cc
