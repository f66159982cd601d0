-- `wait_to_send` meets its contract: the bytes are in the outbox before the wait begins. Assumes nothing.
use mir.Facts.{to_z-of_z}
use Rattle.buffer.proofs.Sending.{waits-to-send}
use Rattle.state.proofs.WordLaws.{long}
use Rattle.buffer.proofs.send.wait_to_send.Goals as goal

pub returns : goal.returns
returns c =
    waits-to-send _ _ _ _ (long _ c.told-state) c.log_answer-next.ensures c.outbox_put.ensures c.word.ensures (to_z-of_z c.ranges.timeout)
    c.wait.ensures
