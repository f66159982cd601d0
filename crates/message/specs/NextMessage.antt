-- 01, "Receive": "Before it is taken, the next message, its bytes alone, is shown where it lies, in the store or in the sending bay, without copying."
use Rattle.std.specs.Prelude.{ℕ, Bool, ◌&&◌, not, cond, List, [], ℤ, eqb}
use Rattle.model.specs.Sizes.{buffers}
use Rattle.model.specs.Lists.{◌!◌}
use Rattle.model.specs.Code.{number}
use Rattle.model.specs.Number.{numbered_as}
use Rattle.model.specs.Facts.{queue, sending}
use Rattle.model.specs.Kernel.{Kernel}
use Rattle.model.specs.World.{Lent, queue_front}
use Rattle.model.specs.Message.{oldest, region, outbox_message}
use Rattle.model.specs.Refusal.{bad_number, no_such}
use Rattle.model.specs.Valid.{valid}
use Rattle.message.specs.declared.next.Location.{Location}
use Rattle.message.specs.declared.next.Location.TheVariants.{Stored, Sent, Nowhere}

-- the bytes of a message that lies there
unfoldable pub message_at : Location → List ℕ → List ℕ → List ℕ
message_at (Stored b) store outbox = oldest (region b.0 store)
message_at (Sent t n) store outbox = outbox_message t.0 n outbox
message_at Nowhere store outbox = []

-- "the oldest stored message, else the first sender's": where it lies, of a buffer that exists
unfoldable pub located : Kernel → ℕ → Location
located k b =
    let t = queue_front k (queue sending b) in
    cond (not (eqb (k.buffers.used ! b) 0)) (Stored (numbered_as b))
    (cond (not (eqb t 0)) (Sent (numbered_as t) (k.tasks.argument ! t)) Nowhere)

-- whether there is a buffer to look at: neither order 1 nor 5 nor 6 applies
unfoldable pub has_buffer : Lent → ℤ → Bool
has_buffer x n = valid x && not (bad_number buffers n).applies && not (no_such x.kernel.buffers.exists n).applies

-- "An empty part is shown exactly when order 1, 5 or 6 applies or there is no message."
unfoldable pub next_location : Lent → ℤ → Location
next_location x n = cond (has_buffer x n) (located x.kernel (number n)) Nowhere

unfoldable pub next_message : Lent → ℤ → List ℕ
next_message x n = message_at (next_location x n) x.store x.outbox
