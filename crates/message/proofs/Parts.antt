-- Parts of a list, as the code lends them: within the list, where the definitions may go beyond its end. Assumes nothing.
use Prim.Native.Nat.{ℕ, zero, suc, pred, ◌+◌, ◌*◌, ◌-◌, ◌≤◌, min}
use native.Mathlib.Decide.{dec_le}
use native.Mathlib.Nat.{suc-mul, suc-pred-eq_of_pos, min-eq_left}
use native.Mathlib.Omega.{arith}
use mathlib.Core.List.{List, [], ◌∷◌, ◌++◌, append-nil}
use mathlib.Core.Path.{◌≡◌, ◌∙◌, refl, sym, ap}
use lib.ListN.{length, take, drop, length-take, length-drop, length-append, length-replicate, take-append-drop, drop_of_length-le}
use lib.Seq.{sets, take_all, take-take, length-take-le}
use Rattle.model.specs.Sizes.{region_bytes, message_bytes}
use Rattle.model.specs.Lists.{zeros, padded}
use Rattle.model.specs.Message.{handed, oldest_length, oldest, part, with_part, region, with_region, outbox_message, with_outbox_message}
use Rattle.model.proofs.ListLaws.{take-zeros}
use Rattle.message.specs.Parts.{Bounds}
use Rattle.message.proofs.Stores.{overwritten-sets, sets_behind, sets_first, sets_over, sets-whole}

-- what counts of a number that goes beyond a list
pub take_min : (n : ℕ) (l : List ℕ) → take (min n (length l)) l ≡ take n l
take_min n l = go (dec_le n (length l))
  where
    go : Dec (n ≤ length l) → take (min n (length l)) l ≡ take n l
    go (yes h) = rw (min-eq_left h)
    go (no h) = take_all (min n (length l)) l (omega arith) ∙ sym (take_all n l (omega arith))

pub drop_min : (n : ℕ) (l : List ℕ) → drop (min n (length l)) l ≡ drop n l
drop_min n l = go (dec_le n (length l))
  where
    go : Dec (n ≤ length l) → drop (min n (length l)) l ≡ drop n l
    go (yes h) = rw (min-eq_left h)
    go (no h) = drop_of_length-le l {i = min n (length l)} (omega arith) ∙ sym (drop_of_length-le l {i = n} (omega arith))

pub take-least : (m n : ℕ) (l : List ℕ) → take (min m n) l ≡ take m (take n l)
take-least m n l = go (dec_le m n)
  where
    go : Dec (m ≤ n) → take (min m n) l ≡ take m (take n l)
    go (yes h) = rw (min-eq_left h) (sym (take-take m n l h))
    go (no h) =
        let e : min m n ≡ n = omega arith in
        rw e (sym (take_all m (take n l) (rw length-take (omega arith))))

-- a part ends where the next one begins
pub next-part : (size n : ℕ) → 1 ≤ n → pred n * size + size ≡ n * size
next-part size n h = sym (suc-mul (pred n) size) ∙ ap (λ (k : ℕ). k * size) (suc-pred-eq_of_pos h)

-- a part that is whole has its full size
pub part-size : (size n : ℕ) (s : List ℕ) → 1 ≤ n → n * size ≤ length s → length (part size n s) ≡ size
unfolding part
part-size size n s h l = rw (length-take, length-drop) (omega (arith, next-part size n h))

-- stores into the first part of a list, lent by itself: as many as fit a whole part
lent-stores : (r x : List ℕ) {size k : ℕ} → k ≡ min size (length r) → length x ≤ size → sets (take k r) 0 x ++ drop k r ≡ sets r 0 x
lent-stores r x {size} {k} e h = go (dec_le (length x) k)
  where
    go : Dec (length x ≤ k) → sets (take k r) 0 x ++ drop k r ≡ sets r 0 x
    go (yes l) = sym (sets_first x (take k r) (drop k r) (rw length-take (omega arith))) ∙ ap (λ (z : List ℕ). sets z 0 x) (take-append-drop k r)
    go (no l) = rw (take_all k r (omega arith), drop_of_length-le r {i = k} (omega arith), append-nil)

-- ---- padding

pub length-padded : (n : ℕ) (m : List ℕ) → length (padded n m) ≡ n
length-padded n m = length-take-le n (m ++ zeros n) (rw (length-append, length-replicate) (omega arith))

-- a send's message has as many bytes as msgsz says, however many were handed over
pub length-handed : (n : ℕ) (bytes : List ℕ) → n ≤ message_bytes → length (take n (handed bytes)) ≡ n
unfolding handed
length-handed n bytes h = length-take-le n (padded message_bytes bytes) (rw (length-padded message_bytes bytes) h)

zeros-behind : (k n : ℕ) (m : List ℕ) → k ≤ n → take k (m ++ zeros n) ≡ take k (m ++ zeros k)
zeros-behind k n [] h = take-zeros k n h ∙ sym (take-zeros k k (omega arith))
zeros-behind zero n (x ∷ m) h = refl
zeros-behind (suc k) n (x ∷ m) h = ap (λ (l : List ℕ). x ∷ l) (zeros-behind k n m (omega arith) ∙ sym (zeros-behind k (suc k) m (omega arith)))

pub padded-shorter : (k n : ℕ) (m : List ℕ) → k ≤ n → take k (padded n m) ≡ padded k m
padded-shorter k n m h = take-take k n (m ++ zeros n) h ∙ zeros-behind k n m h

module _ {size n : ℕ} (s : List ℕ) {a e : ℕ} (b : Bounds size n (length s) a e) where
  from-a : drop a s ≡ drop (pred n * size) s
  from-a = rw b.begins (drop_min (pred n * size) s)

  whole_or_rest : e - a ≡ min size (length (drop a s))
  whole_or_rest = rw length-drop (let p = b.begins in let q = b.ends in omega arith)

  -- the part that is lent is the definition's
  pub part-lent : take (e - a) (drop a s) ≡ part size n s
  unfolding part
  part-lent = rw whole_or_rest (take_min size (drop a s) ∙ ap (take size) from-a)

  -- what is stored into the part that is lent is put over that part of the list: it is no longer than a whole part
  pub part-back : (x : List ℕ) → length x ≤ size → take a s ++ (sets (take (e - a) (drop a s)) 0 x ++ drop (e - a) (drop a s)) ≡ with_part size n s x
  unfolding with_part
  part-back x h =
      rw (lent-stores (drop a s) x whole_or_rest h, from-a) (rw b.begins
      (ap (λ (l : List ℕ). l ++ sets (drop (pred n * size) s) 0 x) (take_min (pred n * size) s)
      ∙ sym (overwritten-sets s (pred n * size) x ∙ sets_behind (pred n * size) x s)))

  part-lent-size : length (take (e - a) (drop a s)) ≤ size
  part-lent-size = rw length-take (omega (arith, whole_or_rest))

pub region-lent : {n : ℕ} (s : List ℕ) {a e : ℕ} → Bounds region_bytes n (length s) a e → take (e - a) (drop a s) ≡ region n s
unfolding region
region-lent s b = part-lent s b

-- a buffer's region lent to a routine that makes f of it, which keeps its length
pub region-back : {n : ℕ} (s : List ℕ) {a e : ℕ} → Bounds region_bytes n (length s) a e → (f : List ℕ → List ℕ) → ((r : List ℕ) → length (f r) ≡ length r)
    → {x : List ℕ} → x ≡ f (take (e - a) (drop a s)) → take a s ++ (x ++ drop (e - a) (drop a s)) ≡ with_region n s (f (region n s))
unfolding region with_region
region-back {n} s {a} {e} b f keeps q =
    let p : List ℕ = take (e - a) (drop a s) in
    rw (q, ← sets-whole (f p) p (keeps p)) (part-back s b (f p) (rw (keeps p) (part-lent-size s b)) ∙ rw (part-lent s b))

-- a part lent to a routine that stores as much of something as there is room for
part_filled : {size n : ℕ} (s : List ℕ) {a e : ℕ} → Bounds size n (length s) a e → (y : List ℕ) → length y ≡ size → {x : List ℕ}
    → x ≡ take (length (take (e - a) (drop a s))) y → take a s ++ (x ++ drop (e - a) (drop a s)) ≡ with_part size n s y
part_filled s {a} {e} b y full q =
    let p : List ℕ = take (e - a) (drop a s) in
    rw (q, ← sets_over y p (rw full (part-lent-size s b))) (part-back s b y (omega arith))

-- a buffer's region lent to be cleared, and a task's part of the outbox lent to a routine that puts a message there
pub region-cleared : {n : ℕ} (s : List ℕ) {a e : ℕ} → Bounds region_bytes n (length s) a e → {x : List ℕ} → x ≡ zeros (length (take (e - a) (drop a s)))
    → take a s ++ (x ++ drop (e - a) (drop a s)) ≡ with_region n s (zeros region_bytes)
unfolding with_region
region-cleared s b q =
    part_filled s b (zeros region_bytes) (length-replicate {A = ℕ} region_bytes 0) (q ∙ sym (take-zeros _ region_bytes (part-lent-size s b)))

pub outbox-back : {n : ℕ} (s : List ℕ) {a e : ℕ} → Bounds message_bytes n (length s) a e → (m : List ℕ) {x : List ℕ}
    → x ≡ padded (length (take (e - a) (drop a s))) m → take a s ++ (x ++ drop (e - a) (drop a s)) ≡ with_outbox_message n s m
unfolding with_outbox_message
outbox-back s b m q =
    part_filled s b (padded message_bytes m) (length-padded message_bytes m) (q ∙ sym (padded-shorter _ message_bytes m (part-lent-size s b)))

pub region-size : (n : ℕ) (s : List ℕ) → 1 ≤ n → n * region_bytes ≤ length s → length (region n s) ≡ region_bytes
unfolding region
region-size n s h l = part-size region_bytes n s h l

-- messages where they lie: the oldest of a region, behind its length; and the first n bytes of a task's part of the outbox
pub oldest-shown : (s : List ℕ) (a k : ℕ) → a ≡ min (length s) 4 → k ≡ min (length (take (length s - a) (drop a s))) (oldest_length s)
    → take k (take (length s - a) (drop a s)) ≡ oldest s
unfolding oldest
oldest-shown s a k p q =
    let r : List ℕ = take (length s - a) (drop a s) in
    let e : k ≡ min (oldest_length s) (length r) = omega arith in
    let d : a ≡ min 4 (length s) = omega arith in
    let all : r ≡ drop a s = take_all (length s - a) (drop a s) (rw length-drop (omega arith)) in
    rw e (take_min (oldest_length s) r ∙ ap (take (oldest_length s)) (all ∙ ap (λ (i : ℕ). drop i s) d ∙ drop_min 4 s))

pub outbox-shown : {t : ℕ} (n k : ℕ) (s : List ℕ) {a e : ℕ} → Bounds message_bytes t (length s) a e
    → k ≡ min n (length (take (e - a) (drop a s))) → take k (take (e - a) (drop a s)) ≡ outbox_message t n s
unfolding outbox_message
outbox-shown n k s {a} {e} b h = rw h (take_min n (take (e - a) (drop a s)) ∙ ap (take n) (part-lent s b))
