-- `refuse_loc_mtx` meets its contract: each test is a condition of the table, in its order. Assumes nothing.
use mir.Facts.{to_z-of_z}
use Rattle.mutex.proofs.Locking.{lock-timeout, lock-numberless, lock-missing, lock-held, lock-above, lock-late, lock-allowed}
use Rattle.mutex.proofs.lock.refuse_loc_mtx.Goals as goal

pub returns-then-bad_timeout : goal.returns-then-bad_timeout
returns-then-bad_timeout c = search (lock-timeout, to_z-of_z)

pub returns-in_default : goal.returns-in_default
returns-in_default c = search (lock-numberless, to_z-of_z)

pub returns-then-exists-eq0 : goal.returns-then-exists-eq0
returns-then-exists-eq0 c = search (lock-missing, to_z-of_z)

pub returns-then-held-word : goal.returns-then-held-word
returns-then-held-word c = search (lock-held, to_z-of_z)

pub returns-then-base_above_ceiling : goal.returns-then-base_above_ceiling
returns-then-base_above_ceiling c = search (lock-above, to_z-of_z)

pub returns-then-no_time : goal.returns-then-no_time
returns-then-no_time c = search (lock-late, to_z-of_z)

pub returns : goal.returns
returns c = search (lock-allowed, to_z-of_z)
