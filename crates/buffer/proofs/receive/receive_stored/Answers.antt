-- `receive_stored` meets its contract: what is logged is read before the message leaves. Assumes nothing.
use Rattle.buffer.proofs.Receiving.{takes-stored}
use Rattle.state.proofs.WordLaws.{long}
use Rattle.buffer.proofs.receive.receive_stored.Goals as goal

pub returns : goal.returns
returns c =
    takes-stored _ _ (long _ c.told-state) c.store_oldest_length-n.ensures c.answer_number-length.ensures c.log_answer-delivery.ensures
    c.store_oldest.ensures c.log_message-next.ensures c.take_oldest.ensures
