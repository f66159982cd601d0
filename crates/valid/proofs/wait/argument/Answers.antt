-- `argument` meets its contract: the fields read are the model's. Assumes nothing.
use Rattle.model.specs.Valid.{argument}
use Rattle.valid.proofs.wait.argument.Goals as goal

pub returns : goal.returns
unfolding argument
returns c = cc
