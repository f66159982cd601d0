-- `send_waits` meets its contract. Assumes nothing.
use Rattle.buffer.proofs.Sending.{waits-never, waits-unstored}
use Rattle.buffer.proofs.send.send_waits.Goals as goal

pub returns-in-Some : goal.returns-in-Some
returns-in-Some c = search waits-never

pub returns-in-None : goal.returns-in-None
returns-in-None c = search waits-unstored
