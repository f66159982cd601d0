-- `release` meets its contract: nobody waits, or the first waiter gets the mutex. Assumes nothing.
use Rattle.act.proofs.Releasing.{releases-free, releases-next}
use Rattle.act.proofs.mutex.release.Goals as goal

pub returns-in_default : goal.returns-in_default
returns-in_default c =
    releases-free c.word.ensures
    c.front-first.ensures
    c.in_default.is
    c.set_holder.ensures c.recompute.ensures

pub returns : goal.returns
returns c =
    releases-next
    c.word.ensures
    c.front-first.ensures
    c.in-Some.is
    c.word-2.ensures
    c.set_holder-2.ensures
    c.end_wait.ensures
