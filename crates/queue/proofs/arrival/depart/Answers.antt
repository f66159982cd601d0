-- `depart` meets its contract: the others are gathered, the rest is cleared. Assumes nothing.
use Rattle.queue.proofs.ArrivingLaws.{departs}
use Rattle.queue.proofs.arrival.depart.Goals as goal

pub returns : goal.returns
returns c = search departs
