-- `wait_to_receive` meets its contract. Assumes nothing.
use mir.Facts.{to_z-of_z}
use Rattle.buffer.proofs.Receiving.{waits-to-receive}
use Rattle.state.proofs.WordLaws.{long}
use Rattle.buffer.proofs.receive.wait_to_receive.Goals as goal

pub returns : goal.returns
returns c = waits-to-receive _ _ _ (long _ c.told-state) c.log_answer-next.ensures c.word.ensures (to_z-of_z c.ranges.timeout) c.wait.ensures
