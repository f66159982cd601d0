-- Where the next message lies, for C: a number for the area, the first byte there, and how many bytes.
use Rattle.std.specs.Prelude.{ℕ, pred, ◌+◌, ◌*◌, ◌≡◌, cond, List, [], length, take, drop, eqb, ℤ}
use Rattle.model.specs.Sizes.{region_bytes, message_bytes}
use Rattle.message.specs.declared.next.Location.{Location}
use Rattle.message.specs.declared.next.Location.TheVariants.{Stored, Sent, Nowhere}
use Rattle.valid.specs.Shown.{shown_location, shown_message}

abbrev pub area_of : Location → ℕ
area_of Nowhere = 0
area_of (Stored b) = 1
area_of (Sent t n) = 2

-- behind the 4 bytes of its length in the buffer's region; at the start of the sender's part of the outbox
abbrev pub start_of : Location → ℕ
start_of Nowhere = 0
start_of (Stored b) = pred b.0 * region_bytes + 4
start_of (Sent t n) = pred t.0 * message_bytes

pub record Found : Type 0 where
  pub area : ℕ
  pub at : ℕ
  pub size : ℕ

abbrev pub found : ℕ → ℕ → ℕ → Found
found area at size = record { area = area; at = at; size = size }

unfoldable pub shown_found : List ℕ → List ℕ → List ℕ → ℤ → Found
shown_found words store outbox n =
    let l = shown_location words store outbox n in
    found (area_of l) (start_of l) (length (shown_message words store outbox n))

-- the bytes of the area of a number
abbrev pub area_bytes : ℕ → List ℕ → List ℕ → List ℕ
area_bytes n store outbox = cond (eqb n 1) store (cond (eqb n 2) outbox [])

-- the bytes that C finds there
abbrev pub bytes_found : Found → List ℕ → List ℕ → List ℕ
bytes_found f store outbox = take f.size (drop f.at (area_bytes f.area store outbox))

-- "the next message, its bytes alone, is shown where it lies": C finds the message there
abbrev pub MessageIsThere : Type 0
MessageIsThere = (words store outbox : List ℕ) (n : ℤ) → bytes_found (shown_found words store outbox n) store outbox ≡ shown_message words store outbox n
