-- `outbox_message` meets its contract: the part lies within the outbox, as the definition's does. Assumes nothing.
use Rattle.message.proofs.Parts.{outbox-shown}
use Rattle.message.proofs.outbox.outbox_message.Goals as goal

pub returns : goal.returns
returns c = outbox-shown c.args.n c.min.result c.args.outbox.now c.part_of.ensures c.min.ensures
