-- `receive_waits` meets its contract. Assumes nothing.
use Rattle.buffer.proofs.Receiving.{waits-stored, waits-sent, waits-nobody}
use Rattle.buffer.proofs.receive.receive_waits.Goals as goal

pub returns-then-used-ne0 : goal.returns-then-used-ne0
returns-then-used-ne0 c = search waits-stored

pub returns-in-Some : goal.returns-in-Some
returns-in-Some c = search waits-sent

pub returns-in-None : goal.returns-in-None
returns-in-None c = search waits-nobody
