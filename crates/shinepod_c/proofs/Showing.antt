-- C finds the next message where it is told that it lies. Assumes nothing.
use Prim.Native.Nat.{ℕ, zero, suc, pred, ◌+◌, ◌*◌, ◌-◌}
use mathlib.Core.Path.{◌≡◌, ◌∙◌, refl, sym, ap}
use mathlib.Core.List.{List, [], ◌∷◌}
use native.Mathlib.Nat.{zero-add, suc-add}
use lib.ListN.{length, take, drop}
use lib.Seq.{take-nil, drop-drop}
use Rattle.model.specs.Sizes.{region_bytes, message_bytes}
use Rattle.model.specs.Message.{oldest_length, oldest, part, region, outbox_message}
use Rattle.message.specs.declared.next.Location.{Location}
use Rattle.message.specs.declared.next.Location.TheVariants.{Stored, Sent, Nowhere}
use Rattle.message.specs.NextMessage.{message_at}
use Rattle.valid.specs.Shown.{shown_location, shown_message}
use Rattle.shinepod_c.specs.Shown.{area_of, start_of, shown_found, area_bytes, MessageIsThere}

-- as many first bytes as a beginning of the list has are that beginning
beginning : (k m : ℕ) (xs : List ℕ) → take (length (take k (take m xs))) xs ≡ take k (take m xs)
beginning zero m xs = refl
beginning (suc k) zero xs = refl
beginning (suc k) (suc m) [] = refl
beginning (suc k) (suc m) (x ∷ xs) = ap (λ (ys : List ℕ). x ∷ ys) (beginning k m xs)

drop-take : (d n : ℕ) (xs : List ℕ) → drop d (take (d + n) xs) ≡ take n (drop d xs)
drop-take zero n xs = rw zero-add
drop-take (suc d) n [] = rw (take-nil (suc d + n)) (sym (take-nil n))
drop-take (suc d) n (x ∷ xs) = rw suc-add (drop-take d n xs)

module _ (store outbox : List ℕ) where
  -- behind the length, in the region
  behind : (b : ℕ) → drop 4 (region b store) ≡ take (region_bytes - 4) (drop (pred b * region_bytes + 4) store)
  unfolding region part
  behind b = drop-take 4 (region_bytes - 4) (drop (pred b * region_bytes) store) ∙ ap (take (region_bytes - 4)) (drop-drop 4 (pred b * region_bytes) store)

  there : (l : Location) → take (length (message_at l store outbox)) (drop (start_of l) (area_bytes (area_of l) store outbox)) ≡ message_at l store outbox
  unfolding message_at oldest outbox_message part
  there Nowhere = refl
  there (Stored b) =
      let at = drop (pred b.0 * region_bytes + 4) store in
      let n = oldest_length (region b.0 store) in
      rw (behind b.0) (beginning n (region_bytes - 4) at)
  there (Sent t n) = beginning n message_bytes (drop (pred t.0 * message_bytes) outbox)

pub message-is-there : MessageIsThere
unfolding shown_found shown_message
message-is-there words store outbox n = there store outbox (shown_location words store outbox n)
