-- 01, "Receive": the next message that is shown, of whatever is lent.
use Rattle.std.specs.Prelude.{ℕ, cond, List, length, ℤ, eqb}
use Rattle.model.specs.Words.{word_count}
use Rattle.message.specs.NextMessage.{message_at, next_location}
use Rattle.message.specs.declared.next.Location.{Location}
use Rattle.message.specs.declared.next.Location.TheVariants.{Nowhere}
use Rattle.model.specs.Lent.{lent}

-- "An empty part is shown exactly when order 1, 5 or 6 applies or there is no message." Words that are no state are order 1's.
unfoldable pub shown_location : List ℕ → List ℕ → List ℕ → ℤ → Location
shown_location words store outbox n = cond (eqb (length words) word_count) (next_location (lent words store outbox) n) Nowhere

unfoldable pub shown_message : List ℕ → List ℕ → List ℕ → ℤ → List ℕ
shown_message words store outbox n = message_at (shown_location words store outbox n) store outbox
