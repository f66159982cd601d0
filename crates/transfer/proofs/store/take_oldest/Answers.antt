-- `take_oldest` meets its contract: what is used goes down by the message's cost, and no lower than 0. Assumes nothing.
use Rattle.transfer.proofs.Storing.{takes}
use Rattle.transfer.proofs.store.take_oldest.Goals as goal

pub returns : goal.returns
returns c =
    takes _ c.used-used.ensures c.store_oldest_length.ensures c.cost-gone.ensures c.store_remove.ensures
    c.saturating_sub-after.ensures c.set_used.ensures
