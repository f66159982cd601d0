-- `drain_numbered` meets its contract: every number from 1 to the last names a buffer. Assumes nothing.
use Rattle.transfer.proofs.Serving.{drains-none, drains-buffer}
use Rattle.transfer.proofs.drain.drain_numbered.Goals as goal

pub returns-in_default : goal.returns-in_default
returns-in_default c = search drains-none

pub returns : goal.returns
returns c = search drains-buffer
