-- `getting_task` meets its contract: the fields read are the model's. Assumes nothing.
use Rattle.model.specs.Valid.{getting_task}
use Rattle.valid.proofs.waiter.getting_task.Goals as goal

pub returns : goal.returns
unfolding getting_task
returns c = rw (c.none_free.ensures, c.object-object.ensures, c.place-place.ensures)
