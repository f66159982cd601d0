-- `take` meets its contract: priorities are settled if the mutex has a ceiling, and are so without that if not. Assumes nothing.
use Rattle.mutex.proofs.Locking.{takes, takes-quiet}
use Rattle.state.proofs.WordLaws.{long}
use Rattle.mutex.proofs.lock.take.Goals as goal

pub returns-then-a-eq-CEILINGED : goal.returns-then-a-eq-CEILINGED
returns-then-a-eq-CEILINGED c = search takes

pub returns-else-a-eq-CEILINGED : goal.returns-else-a-eq-CEILINGED
returns-else-a-eq-CEILINGED c = search (long, takes-quiet)
