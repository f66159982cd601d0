-- `arrive_last` meets its contract: the others are gathered, the task stands behind them, the rest is cleared. Assumes nothing.
use Rattle.queue.proofs.ArrivingLaws.{arrives-last}
use Rattle.queue.proofs.arrival.arrive_last.Goals as goal

pub returns : goal.returns
returns c = search arrives-last
