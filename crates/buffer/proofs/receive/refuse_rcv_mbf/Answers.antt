-- `refuse_rcv_mbf` meets its contract: each test is a condition of the table, in its order. Assumes nothing.
use mir.Facts.{to_z-of_z}
use Rattle.buffer.proofs.Receiving.{receive-timeout, receive-numberless, receive-missing, receive-late, receive-allowed}
use Rattle.buffer.proofs.receive.refuse_rcv_mbf.Goals as goal

pub returns-then-bad_timeout : goal.returns-then-bad_timeout
returns-then-bad_timeout c = search (receive-timeout, to_z-of_z)

pub returns-in_default : goal.returns-in_default
returns-in_default c = search (receive-numberless, to_z-of_z)

pub returns-then-exists-eq0 : goal.returns-then-exists-eq0
returns-then-exists-eq0 c = search (receive-missing, to_z-of_z)

pub returns-then-no_time : goal.returns-then-no_time
returns-then-no_time c = search (receive-late, to_z-of_z)

pub returns : goal.returns
returns c = search (receive-allowed, to_z-of_z)
