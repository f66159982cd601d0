-- `stands_once` meets its contract: the fields read are the model's. Assumes nothing.

use Rattle.valid.proofs.arrival.stands_once.Goals as goal

pub returns : goal.returns
returns c = rw (c.times-n.ensures, c.word.ensures, c.place-place.ensures)
