-- `wait_for` meets its contract: priorities are settled if the mutex inherits, and are so without that if not. Assumes nothing.
use mir.Facts.{to_z-of_z}
use Rattle.mutex.proofs.Locking.{awaits, awaits-quiet}
use Rattle.state.proofs.WordLaws.{long}
use Rattle.mutex.proofs.lock.wait_for.Goals as goal

pub returns-then-a-eq-INHERITS : goal.returns-then-a-eq-INHERITS
returns-then-a-eq-INHERITS c =
    awaits _ _ _ _ c.word.ensures (rw (to_z-of_z c.ranges.timeout) at c.begin_wait.ensures)
    c.recompute.ensures

pub returns-else-a-eq-INHERITS : goal.returns-else-a-eq-INHERITS
returns-else-a-eq-INHERITS c =
    awaits-quiet _ _ _ _ c.word.ensures (rw (to_z-of_z c.ranges.timeout) at c.begin_wait.ensures) (long _ c.told-state) c.requires.caller_value c.requires.priorities c.requires.bitmap
    c.attribute-a.ensures c.if-a-eq-INHERITS.false
