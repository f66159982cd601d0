-- The store and the outbox as parts: what one part becomes, and that all others stay as they are. Assumes nothing.
use Prim.Native.Nat.{ℕ, zero, suc, pred, ◌+◌, ◌*◌, ◌-◌, ◌≤◌, ◌<◌}
use native.Mathlib.Decide.{dec_le}
use native.Mathlib.Nat.{zero-add, suc-add, mul-le-mul_right}
use native.Mathlib.Omega.{arith}
use mathlib.Core.List.{List, [], ◌∷◌, ◌++◌, append_assoc}
use mathlib.Core.Path.{◌≡◌, ◌∙◌, refl, sym, ap}
use lib.ListN.{length, take, drop, length-append, length-take}
use lib.Seq.{take_at, drop_at, take-take, take-nil, length-take-le, drop-append-add, drop-drop, sets-eq, length-sets}
use Rattle.model.specs.Sizes.{region_bytes, message_bytes}
use Rattle.model.specs.Lists.{zeros, padded}
use Rattle.model.specs.Message.{part, with_part, region, with_region, outbox_message, with_outbox_message}
use Rattle.model.proofs.ListLaws.{take-zeros}
use Rattle.message.proofs.Parts.{next-part, part-size, length-padded}
use Rattle.message.proofs.Stores.{overwritten-sets}

-- ---- parts of one size

take-drop : (n a : ℕ) (l : List ℕ) → take n (drop a l) ≡ drop a (take (a + n) l)
take-drop n zero l = rw zero-add
take-drop n (suc a) [] = rw (take-nil (suc a + n)) (take-nil n)
take-drop n (suc a) (x ∷ l) = rw suc-add (take-drop n a l)

-- two lists that agree up to p agree in every part before p
agree-before : (p n a : ℕ) (l r : List ℕ) → take p l ≡ take p r → a + n ≤ p → take n (drop a l) ≡ take n (drop a r)
agree-before p n a l r e h =
    take-drop n a l ∙ ap (drop a) (sym (take-take (a + n) p l h) ∙ ap (take (a + n)) e ∙ take-take (a + n) p r h) ∙ sym (take-drop n a r)

drop_past : (xs ys : List ℕ) (n t : ℕ) → length xs ≡ n → drop (n + t) (xs ++ ys) ≡ drop t ys
drop_past xs ys n t e = rw (← e) (drop-append-add xs ys t)

-- the area keeps its length, whatever the number and the bytes
pub length-with_part : (size n : ℕ) (s x : List ℕ) → length (with_part size n s x) ≡ length s
unfolding with_part
length-with_part size n s x = ap length (overwritten-sets s (pred n * size) x) ∙ length-sets s (pred n * size) x

module _ (size n : ℕ) (s x : List ℕ) (low : 1 ≤ n) (high : n * size ≤ length s) (full : length x ≡ size) where
  before : length (take (pred n * size) s) ≡ pred n * size
  before = length-take-le (pred n * size) s (omega (arith, next-part size n low))

  through : length (take (pred n * size) s ++ x) ≡ n * size
  through = length-append (take (pred n * size) s) x ∙ rw (before, full) (next-part size n low)

  -- a whole part takes the place of the one that was there
  exchanged : with_part size n s x ≡ take (pred n * size) s ++ x ++ drop (n * size) s
  unfolding with_part
  exchanged =
      let e : pred n * size + length x ≡ n * size = rw full (next-part size n low) in
      overwritten-sets s (pred n * size) x ∙ sets-eq x s (pred n * size) (omega arith) ∙ rw e

  pub part_same : part size n (with_part size n s x) ≡ x
  unfolding part
  part_same =
      rw (exchanged, append_assoc)
      (ap (take size) (drop_at (take (pred n * size) s) (x ++ drop (n * size) s) (pred n * size) before) ∙ take_at x (drop (n * size) s) size full)

  part-earlier : (k : ℕ) → 1 ≤ k → k < n → part size k (with_part size n s x) ≡ part size k s
  unfolding part
  part-earlier k l h =
      agree-before (pred n * size) size (pred k * size) _ s
      (rw (exchanged, append_assoc) (take_at (take (pred n * size) s) (x ++ drop (n * size) s) (pred n * size) before))
      (rw (next-part size k l) (mul-le-mul_right size (omega arith)))

  part-later : (k : ℕ) → n < k → part size k (with_part size n s x) ≡ part size k s
  unfolding part
  part-later k h =
      let far : n * size ≤ pred k * size = mul-le-mul_right size (omega arith) in
      let t : ℕ = pred k * size - n * size in
      let e : pred k * size ≡ n * size + t = omega arith in
      ap (take size) (rw (exchanged, e) (drop_past (take (pred n * size) s ++ x) (drop (n * size) s) (n * size) t through ∙ drop-drop t (n * size) s))

  pub part-other : (k : ℕ) → 1 ≤ k → (k ≡ n → ⊥) → part size k (with_part size n s x) ≡ part size k s
  part-other k l h = go (dec_le n k)
    where
      go : Dec (n ≤ k) → part size k (with_part size n s x) ≡ part size k s
      go (yes q) = part-later k (omega arith)
      go (no q) = part-earlier k l (omega arith)

-- ---- a message at the start of its part

take-padded : (n : ℕ) (m : List ℕ) → length m ≤ n → take (length m) (padded n m) ≡ m
take-padded n m h = take-take (length m) n (m ++ zeros n) h ∙ take_at m (zeros n) (length m) refl

drop-padded : (n : ℕ) (m : List ℕ) → length m ≤ n → drop (length m) (padded n m) ≡ zeros (n - length m)
drop-padded n m h =
    let t : ℕ = n - length m in
    let e : n ≡ length m + t = omega arith in
    ap (λ (k : ℕ). drop (length m) (take k (m ++ zeros n))) e ∙ sym (take-drop t (length m) (m ++ zeros n))
    ∙ ap (take t) (drop_at m (zeros n) (length m) refl) ∙ take-zeros t n (omega arith)

-- ---- the store

pub length-with_region : (b : ℕ) (s x : List ℕ) → length (with_region b s x) ≡ length s
unfolding with_region
length-with_region b s x = length-with_part region_bytes b s x

module _ (b : ℕ) (s x : List ℕ) (low : 1 ≤ b) (high : b * region_bytes ≤ length s) (full : length x ≡ region_bytes) where
  pub region-same : region b (with_region b s x) ≡ x
  unfolding region with_region
  region-same = part_same region_bytes b s x low high full

  pub region-other : (k : ℕ) → 1 ≤ k → (k ≡ b → ⊥) → region k (with_region b s x) ≡ region k s
  unfolding region with_region
  region-other = part-other region_bytes b s x low high full

-- ---- the outbox

pub length-with_outbox_message : (t : ℕ) (s m : List ℕ) → length (with_outbox_message t s m) ≡ length s
unfolding with_outbox_message
length-with_outbox_message t s m = length-with_part message_bytes t s (padded message_bytes m)

module _ (t : ℕ) (s m : List ℕ) (low : 1 ≤ t) (high : t * message_bytes ≤ length s) where
  pub outbox-same : part message_bytes t (with_outbox_message t s m) ≡ padded message_bytes m
  unfolding with_outbox_message
  outbox-same = part_same message_bytes t s (padded message_bytes m) low high (length-padded message_bytes m)

  pub outbox-other : (k : ℕ) → 1 ≤ k → (k ≡ t → ⊥) → part message_bytes k (with_outbox_message t s m) ≡ part message_bytes k s
  unfolding with_outbox_message
  outbox-other = part-other message_bytes t s (padded message_bytes m) low high (length-padded message_bytes m)

  -- the message is read back, and zeros stand behind it
  pub outbox_message-same : length m ≤ message_bytes → outbox_message t (length m) (with_outbox_message t s m) ≡ m
  unfolding outbox_message
  outbox_message-same h = ap (take (length m)) outbox-same ∙ take-padded message_bytes m h

  pub outbox-behind : length m ≤ message_bytes → drop (length m) (part message_bytes t (with_outbox_message t s m)) ≡ zeros (message_bytes - length m)
  outbox-behind h = ap (drop (length m)) outbox-same ∙ drop-padded message_bytes m h

-- a sender's message has as many bytes as its wait's argument says
pub length-outbox_message : (t n : ℕ) (s : List ℕ) → n ≤ message_bytes → 1 ≤ t → t * message_bytes ≤ length s → length (outbox_message t n s) ≡ n
unfolding outbox_message
length-outbox_message t n s h low high = rw (length-take, part-size message_bytes t s low high) (omega arith)
