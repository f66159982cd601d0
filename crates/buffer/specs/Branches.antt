-- What a send and a receive come to where they are carried out in one way.
use Rattle.std.specs.Prelude.{ℕ, List, length, ℤ, pos}
use Rattle.model.specs.Code.{E_OK}
use Rattle.model.specs.Facts.{queue, sending, receiving}
use Rattle.model.specs.World.{World, Nothing, Message, with_outbox}
use Rattle.model.specs.Message.{oldest_length, oldest, region, with_outbox_message}
use Rattle.model.specs.Act.{wait, end_wait, store_message, senders_message}
use Rattle.model.specs.Effect.{Done, answered, succeeds, waits, take_oldest}

-- "to the first receiver"
abbrev pub sent_over : ℕ → List ℕ → World → Done
sent_over r m w = succeeds (end_wait w r (pos (length m)) (Message m))

-- "stored"
abbrev pub sent_in : ℕ → List ℕ → World → Done
sent_in b m w = succeeds (store_message w b m)

-- "else wait"
abbrev pub send_waiting : ℕ → ℕ → List ℕ → ℤ → World → Done
send_waiting t b m timeout w = waits (wait (with_outbox w (with_outbox_message t w.outbox m)) t (queue sending b) (length m) timeout)

-- "the oldest stored message"
abbrev pub received_stored : ℕ → World → Done
received_stored b w = answered (pos (oldest_length (region b w.store))) (Message (oldest (region b w.store))) (take_oldest w b)

-- "the first sender's"
abbrev pub received_sent : ℕ → World → Done
received_sent t w = answered (pos (length (senders_message w t))) (Message (senders_message w t)) (end_wait w t E_OK Nothing)

-- "else wait"
abbrev pub receive_waiting : ℕ → ℕ → ℤ → World → Done
receive_waiting t b timeout w = waits (wait w t (queue receiving b) 0 timeout)
