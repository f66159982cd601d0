-- `store_remove` meets its contract: the region lent and put back is the definition's. Assumes nothing.
use Rattle.model.specs.Message.{removed}
use Rattle.message.proofs.Parts.{region-back}
use Rattle.message.proofs.Packing.{length_removed}
use Rattle.message.proofs.store.store_remove.Goals as goal

pub returns : goal.returns
returns c = region-back c.args.store.now c.part_of-part.ensures removed length_removed c.remove.ensures
