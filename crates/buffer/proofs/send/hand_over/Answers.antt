-- `hand_over` meets its contract. Assumes nothing.
use mir.Facts.{to_z-of_z}
use mir.Syntax.{w32}
use borrow.Author.Rules.{rules}
use Rattle.buffer.proofs.Sending.{hands-over}
use Rattle.state.proofs.WordLaws.{long}
use Rattle.buffer.proofs.send.hand_over.Goals as goal

pub returns : goal.returns
returns c = hands-over _ _ _ (long _ c.told-state) c.log_answer-waits.ensures c.code-length.ensures (to_z-of_z {w = w32} (search rules)) c.end_wait_message-next.ensures
