-- `wait_fields` meets its contract: the fields read are the model's. Assumes nothing.
use Rattle.model.specs.Valid.{wait_fields}
use Rattle.valid.proofs.wait.wait_fields.Goals as goal

pub returns : goal.returns
unfolding wait_fields
returns c = cc
