-- `refuse_get_mpf` meets its contract: each test is a condition of the table, in its order. Assumes nothing.
use mir.Facts.{to_z-of_z}
use Rattle.pool.proofs.Getting.{get-timeout, get-numberless, get-missing, get-late, get-allowed}
use Rattle.pool.proofs.get.refuse_get_mpf.Goals as goal

pub returns-then-bad_timeout : goal.returns-then-bad_timeout
returns-then-bad_timeout c = search (get-timeout, to_z-of_z)

pub returns-in_default : goal.returns-in_default
returns-in_default c = search (get-numberless, to_z-of_z)

pub returns-then-exists-eq0 : goal.returns-then-exists-eq0
returns-then-exists-eq0 c = search (get-missing, to_z-of_z)

pub returns-then-no_time : goal.returns-then-no_time
returns-then-no_time c = search (get-late, to_z-of_z)

pub returns : goal.returns
returns c = search (get-allowed, to_z-of_z)
