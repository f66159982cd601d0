-- `receive_sent` meets its contract: no more lies in the outbox than a message has, so its length is a code. Assumes nothing.
use native.Mathlib.Omega.{arith}
use Rattle.buffer.proofs.Receiving.{takes-sent, sent-short}
use Rattle.state.proofs.WordLaws.{long}
use Rattle.buffer.proofs.receive.receive_sent.Goals as goal

pub overflow_cast-m : goal.overflow_cast-m
overflow_cast-m c = record { fits = omega (arith, sent-short _ _ _ c.outbox_message-m.ensures) }

pub answer_number-length-requires : goal.answer_number-length-requires
answer_number-length-requires c = omega (arith, sent-short _ _ _ c.outbox_message-m.ensures)

pub returns : goal.returns
returns c =
    takes-sent _ _ (long _ c.told-state) c.argument-n.ensures c.outbox_message-m.ensures c.answer_number-length.ensures c.log_answer-delivery.ensures
    c.log_message-waits.ensures c.end_wait-next.ensures
