-- `oldest` meets its contract: the part lies within the slice, as the definition's does. Assumes nothing.
use Rattle.message.proofs.Parts.{oldest-shown}
use Rattle.message.proofs.region.oldest.Goals as goal

pub returns : goal.returns
returns c = oldest-shown c.args.r.now c.min.result c.min-2.result c.min.ensures (rw (← c.oldest_length.ensures) c.min-2.ensures)
