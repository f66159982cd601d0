-- `release_settled` meets its contract: nobody waits, with a ceiling or without, or the first waiter gets the mutex. Assumes nothing.
use Rattle.act.proofs.Releasing.{releases-free, releases-quiet, releases-next}
use Rattle.state.proofs.WordLaws.{long}
use Rattle.act.proofs.mutex.release_settled.Goals as goal

pub returns-then-a-eq-CEILINGED : goal.returns-then-a-eq-CEILINGED
returns-then-a-eq-CEILINGED c =
    releases-free c.word.ensures c.front-first.ensures c.in_default.is c.set_holder.ensures
    c.recompute.ensures

pub returns-else-a-eq-CEILINGED : goal.returns-else-a-eq-CEILINGED
returns-else-a-eq-CEILINGED c =
    releases-quiet c.word.ensures c.front-first.ensures (long _ c.told-state) c.requires.priorities c.requires.bitmap c.requires.arrivals c.in_default.is c.attribute-a.ensures
    c.if-a-eq-CEILINGED.false c.set_holder.ensures

pub returns : goal.returns
returns c =
    releases-next c.word.ensures c.front-first.ensures c.in-Some.is c.word-2.ensures
    c.set_holder-2.ensures c.end_wait.ensures
