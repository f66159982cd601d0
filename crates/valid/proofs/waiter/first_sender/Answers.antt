-- `first_sender` meets its contract: the first sender's message fits, or none does. Assumes nothing.
use Rattle.valid.proofs.Waiters.{fits-first, fits-none}
use Rattle.valid.proofs.waiter.first_sender.Goals as goal

pub returns-in-Some : goal.returns-in-Some
returns-in-Some c = fits-first _ _ c.first_fitting.ensures c.in-Some.is

pub returns-in-None : goal.returns-in-None
returns-in-None c = fits-none _ _ c.first_fitting.ensures c.in-None.is
