-- The kinds one by one. Assumes nothing.
use Rattle.std.proofs.Common.{◌≡◌, ◌≤◌, ◌+◌, ◌-◌, ℕ, suc, ◌∙◌, sym, ap, ap₂, refl, arith, Bool, true, false, List, ◌∷◌, length, Option, Some, None, option_map}
use Rattle.std.specs.List.{range_with_len}
use Rattle.std.specs.Range.{range_inclusive_len, range_inclusive_start, range_inclusive_end, range_inclusive_exhausted}
use Rattle.std.specs.declared.ops.RangeInclusive.{RangeInclusive}
use Rattle.std.proofs.iter.runs.Sources.{nat_range_inclusive_steps}
use Rattle.std.proofs.lemmas.Iterator.{YieldsList}
use Rattle.std.proofs.lemmas.Iterator.Consumers.{YieldsList-from_shown}

-- ---- `a..=b` gives its numbers one by one

abbrev left : RangeInclusive ℕ → ℕ
left s = range_inclusive_len (λ x y. y - x) (range_inclusive_start s) (range_inclusive_end s) (range_inclusive_exhausted s)

abbrev shown : RangeInclusive ℕ → List ℕ
shown s = range_with_len (range_inclusive_start s) (left s)

none-left : (s t : RangeInclusive ℕ) → nat_range_inclusive_steps s None t → length (shown s) ≡ 0
none-left s t h = ap (λ (n : ℕ). length (range_with_len (range_inclusive_start s) n)) h.1.0

rest-shown : (a b n : ℕ) (spent : Bool) → (spent ≡ false → b ≡ a + 1) → (spent ≡ true → n ≡ 0) → range_with_len (a + 1) n ≡ range_with_len b n
rest-shown a b n true f g = rw (g refl) refl
rest-shown a b n false f g = ap (λ (k : ℕ). range_with_len k n) (sym (f refl))

one-shown : (s : RangeInclusive ℕ) (x : ℕ) (t : RangeInclusive ℕ) → nat_range_inclusive_steps s (Some x) t → shown s ≡ x ∷ shown t
one-shown s x t h =
    ap (range_with_len (range_inclusive_start s)) (let e : left s ≡ suc (left t) = omega (arith, h.1.1) in e)
    ∙ ap₂ (λ (k : ℕ) (l : List ℕ). k ∷ l) (sym h.1.0)
    (rest-shown (range_inclusive_start s) (range_inclusive_start t) (left t) (range_inclusive_exhausted t) h.1.2
    (λ z. ap (range_inclusive_len (λ x y. y - x) (range_inclusive_start t) (range_inclusive_end t)) z))

pub kinds-shown : {s : RangeInclusive ℕ} (a b : ℕ) → range_inclusive_start s ≡ a → range_inclusive_end s ≡ b → range_inclusive_exhausted s ≡ false → a ≤ b
    → YieldsList nat_range_inclusive_steps (λ x. x) s (range_with_len a (b + 1 - a))
kinds-shown {s} a b ea eb z h =
    let n : left s ≡ b + 1 - a = omega (arith, ap (range_inclusive_len (λ x y. y - x) (range_inclusive_start s) (range_inclusive_end s)) z) in
    let all : shown s ≡ range_with_len a (b + 1 - a) = ap₂ range_with_len ea n in
    rw (← all) (YieldsList-from_shown nat_range_inclusive_steps (λ x. x) shown none-left one-shown s)

pub found-is : {A : Type 0} (r : Option A) → option_map (λ x. x) r ≡ r
found-is None = refl
found-is (Some x) = refl
