-- `buffer_range` meets its contract: the fields read are the model's. Assumes nothing.
use Rattle.model.specs.Valid.{buffer_range}
use Rattle.valid.proofs.range.buffer_range.Goals as goal

pub returns : goal.returns
unfolding buffer_range
returns c = cc
