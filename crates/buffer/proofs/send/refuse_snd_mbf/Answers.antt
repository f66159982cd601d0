-- `refuse_snd_mbf` meets its contract: each test is a condition of the table, in its order. Assumes nothing.
use mir.Facts.{to_z-of_z}
use Rattle.buffer.proofs.Sending.{send-timeout, send-empty, send-dirty, send-numberless, send-missing, send-long, send-late, send-allowed}
use Rattle.buffer.proofs.send.refuse_snd_mbf.Goals as goal

pub returns-then-bad_timeout : goal.returns-then-bad_timeout
returns-then-bad_timeout c = search (send-timeout, to_z-of_z)

pub returns-then-msgsz-le0 : goal.returns-then-msgsz-le0
returns-then-msgsz-le0 c = search (send-empty, to_z-of_z)

pub returns-then-dirty_tail : goal.returns-then-dirty_tail
returns-then-dirty_tail c = search (send-dirty, to_z-of_z)

pub returns-in_default : goal.returns-in_default
returns-in_default c = search (send-numberless, to_z-of_z)

pub returns-then-exists-eq0 : goal.returns-then-exists-eq0
returns-then-exists-eq0 c = search (send-missing, to_z-of_z)

pub returns-then-maxmsz-n : goal.returns-then-maxmsz-n
returns-then-maxmsz-n c = search (send-long, to_z-of_z)

pub returns-then-no_time : goal.returns-then-no_time
returns-then-no_time c = search (send-late, to_z-of_z)

pub returns : goal.returns
returns c = search (send-allowed, to_z-of_z)
