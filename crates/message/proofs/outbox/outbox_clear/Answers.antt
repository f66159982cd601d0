-- `outbox_clear` meets its contract: zeros are a message of no bytes. Assumes nothing.
use mathlib.Core.List.{[]}
use Rattle.message.proofs.Parts.{outbox-back}
use Rattle.message.proofs.Packing.{zeros-padded}
use Rattle.message.proofs.outbox.outbox_clear.Goals as goal

pub returns : goal.returns
returns c = outbox-back c.args.outbox.now c.part_of-part.ensures [] (rw zeros-padded at c.clear.ensures)
