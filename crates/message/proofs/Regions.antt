-- A region that holds messages: their packed bytes, and zeros behind them. Appending adds the newest, removing takes the oldest, and
-- the messages can be read back. Assumes nothing.
use Prim.Native.Nat.{ℕ, zero, suc, ◌+◌, ◌-◌, ◌≤◌, ◌<◌, ◌^◌}
use native.Mathlib.Omega.{arith}
use mathlib.Core.List.{List, [], ◌∷◌, ◌++◌, map, append_assoc, append-nil}
use mathlib.Core.Path.{◌≡◌, ◌∙◌, refl, sym, ap}
use lib.ListN.{length, get_or, drop, length-append, length-replicate, replicate-append-replicate}
use lib.Seq.{take_all, take_at, drop-append-add}
use borrow.Author.Tests.{ne_eqb}
use Rattle.model.specs.Sizes.{region_bytes}
use Rattle.model.specs.Lists.{joined, zeros}
use Rattle.model.specs.Message.{cost, packed, appended, oldest_length, oldest, removed, over, overwritten}
use Rattle.message.proofs.Contents.{total_cost, region_of, unpacked}
use Rattle.message.proofs.Messages.{length-packed, oldest_length-packed, oldest-packed, behind-packed, removed-packed}

-- ---- packed messages

pub cost-above : (n : ℕ) → n + 4 ≤ cost n
unfolding cost
cost-above n = omega arith

pub length-joined : (ms : List (List ℕ)) → length (joined (map packed ms)) ≡ total_cost ms
length-joined [] = refl
length-joined (m ∷ ms) = length-append (packed m) (joined (map packed ms)) ∙ rw (length-packed m, length-joined ms)

pub joined-more : (ms : List (List ℕ)) (m : List ℕ) → joined (map packed (ms ++ m ∷ [])) ≡ joined (map packed ms) ++ packed m
joined-more [] m = append-nil (packed m)
joined-more (x ∷ ms) m = rw (joined-more ms m) (sym (append_assoc (packed x) (joined (map packed ms)) (packed m)))

pub total_cost-more : (ms : List (List ℕ)) (m : List ℕ) → total_cost (ms ++ m ∷ []) ≡ total_cost ms + cost (length m)
total_cost-more [] m = omega arith
total_cost-more (x ∷ ms) m = rw (total_cost-more ms m) (omega arith)

pub drop-zeros : (n k : ℕ) → drop n (zeros k) ≡ zeros (k - n)
drop-zeros zero k = let e : k ≡ k - 0 = omega arith in ap zeros e
drop-zeros (suc n) zero = let e : 0 ≡ 0 - suc n = omega arith in ap zeros e
drop-zeros (suc n) (suc k) = let e : k - n ≡ suc k - suc n = omega arith in drop-zeros n k ∙ ap zeros e

-- ---- one more message behind some bytes and zeros

pub appended-behind : (j m : List ℕ) (used k : ℕ) → length j ≡ used → cost (length m) ≤ k → appended (j ++ zeros k) used m ≡ j ++ packed m ++ zeros (k - cost (length m))
unfolding appended over overwritten
appended-behind j m used k e h =
    let n : ℕ = cost (length m) in
    let all : length (j ++ packed m ++ zeros (k - n)) ≤ length (j ++ zeros k) = simp (length-append, length-replicate, length-packed) (omega arith) in
    rw (take_at j (zeros k) used e, length-packed m)
    (rw (← e, drop-append-add j (zeros k) n) (rw (drop-zeros n k) (take_all (length (j ++ zeros k)) (j ++ packed m ++ zeros (k - n)) all)))

-- ---- a region of messages

module _ (ms : List (List ℕ)) where
  pub length-region_of : total_cost ms ≤ region_bytes → length (region_of ms) ≡ region_bytes
  unfolding region_of
  length-region_of h = length-append (joined (map packed ms)) (zeros (region_bytes - total_cost ms)) ∙ rw (length-joined ms, length-replicate) (omega arith)

  pub append-region_of : (m : List ℕ) → total_cost ms + cost (length m) ≤ region_bytes → appended (region_of ms) (total_cost ms) m ≡ region_of (ms ++ m ∷ [])
  unfolding region_of
  append-region_of m h =
      let used : ℕ = total_cost ms in
      let e : region_bytes - used - cost (length m) ≡ region_bytes - (used + cost (length m)) = omega arith in
      rw (joined-more ms m, total_cost-more ms m)
      (appended-behind (joined (map packed ms)) m used (region_bytes - used) (length-joined ms) (omega arith)
      ∙ ap (λ (k : ℕ). joined (map packed ms) ++ packed m ++ zeros k) e)

  module _ (m : List ℕ) (fit : total_cost (m ∷ ms) ≤ region_bytes) where
    short : length m < 2 ^ 32
    short = omega (arith, cost-above (length m))

    front : region_of (m ∷ ms) ≡ packed m ++ (joined (map packed ms) ++ zeros (region_bytes - total_cost (m ∷ ms)))
    unfolding region_of
    front = append_assoc (packed m) (joined (map packed ms)) (zeros (region_bytes - total_cost (m ∷ ms)))

    pub oldest_length-region_of : oldest_length (region_of (m ∷ ms)) ≡ length m
    oldest_length-region_of = rw front (oldest_length-packed m _ short)

    pub oldest-region_of : oldest (region_of (m ∷ ms)) ≡ m
    oldest-region_of = rw front (oldest-packed m _ short)

    pub remove-region_of : removed (region_of (m ∷ ms)) ≡ region_of ms
    unfolding region_of
    remove-region_of =
        let j : List ℕ = joined (map packed ms) in
        let k : ℕ = region_bytes - total_cost (m ∷ ms) in
        let e : k + cost (length m) ≡ region_bytes - total_cost ms = omega arith in
        ap removed front ∙ removed-packed m (j ++ zeros k) short ∙ append_assoc j (zeros k) (zeros (cost (length m)))
        ∙ rw (replicate-append-replicate {A = ℕ} k (cost (length m)) 0) (ap (λ (i : ℕ). j ++ zeros i) e)

-- ---- read back

module _ (r : List ℕ) (n used : ℕ) where
  unpacked-more : (used ≡ 0 → ⊥) → unpacked (suc n) used r ≡ oldest r ∷ unpacked n (used - cost (oldest_length r)) (drop (cost (oldest_length r)) r)
  unpacked-more h = rw (unpacked, ne_eqb used 0 h)

unpacked-none : (n : ℕ) (r : List ℕ) → unpacked n 0 r ≡ []
unpacked-none zero r = refl
unpacked-none (suc n) r = refl

pub unpacked-joined : (ms : List (List ℕ)) (z : List ℕ) (n : ℕ) → length ms ≤ n → ((i : ℕ) → i < length ms → length (get_or ms i []) < 2 ^ 32)
    → unpacked n (total_cost ms) (joined (map packed ms) ++ z) ≡ ms
unpacked-joined [] z n l s = unpacked-none n z
unpacked-joined (m ∷ ms) z zero l s = absurd (omega arith)
unpacked-joined (m ∷ ms) z (suc n) l s =
    let h : length m < 2 ^ 32 = s 0 (omega arith) in
    let y : List ℕ = joined (map packed ms) ++ z in
    let c : ℕ = cost (length m) in
    let e : total_cost (m ∷ ms) - c ≡ total_cost ms = omega arith in
    ap (λ (r : List ℕ). unpacked (suc n) (total_cost (m ∷ ms)) r) (append_assoc (packed m) (joined (map packed ms)) z)
    ∙ unpacked-more (packed m ++ y) n (total_cost (m ∷ ms)) (λ q. omega (arith, cost-above (length m)))
    ∙ rw (oldest-packed m y h, oldest_length-packed m y h) (rw (behind-packed m y, e)
    (ap (λ (l : List (List ℕ)). m ∷ l) (unpacked-joined ms z n (omega arith) (λ i q. s (suc i) (omega arith)))))

-- a region's messages are few enough and short enough to be read back
total-short : (ms : List (List ℕ)) (i : ℕ) → i < length ms → length (get_or ms i []) ≤ total_cost ms
total-short [] i h = absurd (omega arith)
total-short (m ∷ ms) zero h = omega (arith, cost-above (length m))
total-short (m ∷ ms) (suc i) h = omega (arith, total-short ms i (omega arith))

pub total-few : (ms : List (List ℕ)) → length ms ≤ total_cost ms
total-few [] = omega arith
total-few (m ∷ ms) = omega (arith, total-few ms, cost-above (length m))

pub unpacked-region_of : (ms : List (List ℕ)) → total_cost ms ≤ region_bytes → unpacked region_bytes (total_cost ms) (region_of ms) ≡ ms
unfolding region_of
unpacked-region_of ms h =
    unpacked-joined ms (zeros (region_bytes - total_cost ms)) region_bytes (omega (arith, total-few ms)) (λ i q. omega (arith, total-short ms i q))

pub region_of-none : region_of [] ≡ zeros region_bytes
unfolding region_of
region_of-none = refl
