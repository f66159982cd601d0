-- `store_append` meets its contract: the region lent and put back is the definition's. Assumes nothing.
use lib.ListN.{take}
use Rattle.model.specs.Message.{appended}
use Rattle.message.proofs.Parts.{region-back}
use Rattle.message.proofs.Packing.{length-appended}
use Rattle.message.proofs.store.store_append.Goals as goal

pub returns : goal.returns
returns c =
    let a = c.args in
    let m = take a.n a.m.now in
    region-back a.store.now c.part_of-part.ensures (λ r. appended r a.used m) (λ r. length-appended r a.used m) c.append.ensures
