-- `keep` meets its contract. Assumes nothing.
use Rattle.buffer.proofs.Sending.{keeps}
use Rattle.state.proofs.WordLaws.{long}
use Rattle.buffer.proofs.send.keep.Goals as goal

pub returns : goal.returns
returns c = keeps _ _ _ (long _ c.told-state) c.log_answer-next.ensures c.store_message.ensures
