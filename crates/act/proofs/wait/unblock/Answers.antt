-- `unblock` meets its contract: the place that the task had says whether priorities are settled. Assumes nothing.
use Rattle.act.proofs.Ending.{unblocks-locking, unblocks-other}
use Rattle.act.proofs.wait.unblock.Goals as goal

pub returns-then-stood-eq-LOCKING : goal.returns-then-stood-eq-LOCKING
returns-then-stood-eq-LOCKING c = search unblocks-locking

pub returns-else-stood-eq-LOCKING : goal.returns-else-stood-eq-LOCKING
returns-else-stood-eq-LOCKING c = search unblocks-other
