-- `store_clear` meets its contract: the region lent has zeros then, as many as there are bytes. Assumes nothing.
use Rattle.message.proofs.Parts.{region-cleared}
use Rattle.message.proofs.store.store_clear.Goals as goal

pub returns : goal.returns
returns c = region-cleared c.args.store.now c.part_of-part.ensures c.clear.ensures
