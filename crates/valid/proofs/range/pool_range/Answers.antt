-- `pool_range` meets its contract: the fields read are the model's. Assumes nothing.
use Rattle.model.specs.Valid.{pool_range}
use Rattle.valid.proofs.range.pool_range.Goals as goal

pub returns : goal.returns
unfolding pool_range
returns c = cc
