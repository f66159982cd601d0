-- `arrive` meets its contract, step by step. Assumes nothing.
use Rattle.queue.proofs.ArrivingLaws.{arrives}
use Rattle.queue.proofs.arrival.arrive.Goals as goal

pub returns : goal.returns
returns c = search arrives
