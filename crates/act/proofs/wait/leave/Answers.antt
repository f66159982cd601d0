-- `leave` meets its contract: the place says whether bytes lie in the outbox. Assumes nothing.
use Rattle.act.proofs.Ending.{leave-sender, leave-other}
use Rattle.act.proofs.wait.leave.Goals as goal

pub returns-then-place-eq-SENDING : goal.returns-then-place-eq-SENDING
returns-then-place-eq-SENDING c = search leave-sender

pub returns-else-place-eq-SENDING : goal.returns-else-place-eq-SENDING
returns-else-place-eq-SENDING c = search leave-other
