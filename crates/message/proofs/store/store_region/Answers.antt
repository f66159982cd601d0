-- `store_region` meets its contract: the region lent is the definition's. Assumes nothing.
use Rattle.message.proofs.Parts.{region-lent}
use Rattle.message.proofs.store.store_region.Goals as goal

pub returns : goal.returns
returns c = region-lent c.args.store.now c.part_of.ensures
