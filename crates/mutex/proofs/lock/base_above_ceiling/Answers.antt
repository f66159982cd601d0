-- `base_above_ceiling` meets its contract: the fields read are the model's. Assumes nothing.
use Rattle.mutex.proofs.Locking.{above-read}
use Rattle.mutex.proofs.lock.base_above_ceiling.Goals as goal

pub returns : goal.returns
returns c = search (above-read)
