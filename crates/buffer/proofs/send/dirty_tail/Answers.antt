-- `dirty_tail` meets its contract. Assumes nothing.
use mir.Facts.{to_z-of_z}
use Rattle.buffer.proofs.Sending.{tail-tests}
use Rattle.buffer.proofs.send.dirty_tail.Goals as goal

pub returns : goal.returns
returns c = search (tail-tests, to_z-of_z)
