-- `outbox_put` meets its contract: the part lent and put back is the definition's. Assumes nothing.
use lib.ListN.{take}
use Rattle.message.proofs.Parts.{outbox-back}
use Rattle.message.proofs.outbox.outbox_put.Goals as goal

pub returns : goal.returns
returns c =
    let a = c.args in
    outbox-back a.outbox.now c.part_of-part.ensures (take a.n a.m.now) c.fill.ensures
