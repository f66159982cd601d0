-- `wait` meets its contract: the place says whether priorities are settled. Assumes nothing.
use mir.Facts.{to_z-of_z}
use Rattle.act.proofs.Ending.{waits-locking, waits-other}
use Rattle.act.proofs.wait.wait.Goals as goal

pub returns-then-place-eq-LOCKING : goal.returns-then-place-eq-LOCKING
returns-then-place-eq-LOCKING c =
    waits-locking _ _ _ _ _ _ (rw (to_z-of_z c.ranges.timeout) at c.begin_wait.ensures) c.if-place-eq-LOCKING.true
    c.recompute.ensures

pub returns-else-place-eq-LOCKING : goal.returns-else-place-eq-LOCKING
returns-else-place-eq-LOCKING c = waits-other _ _ _ _ _ _ (rw (to_z-of_z c.ranges.timeout) at c.begin_wait.ensures) c.if-place-eq-LOCKING.false
