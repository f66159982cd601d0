-- `no_sender` meets its contract: the fields read are the model's. Assumes nothing.

use Rattle.valid.proofs.waiter.no_sender.Goals as goal

pub returns : goal.returns
returns c = rw (c.object-object.ensures, c.place-place.ensures)
