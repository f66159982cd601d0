-- Laws of words of bits: one bit set or not, and the lowest bit that is set. Assumes nothing.
use Prim.Native.Nat.{ℕ, zero, suc, ◌+◌, ◌*◌, ◌-◌, ◌/◌, ◌%◌, ◌^◌, ◌≤◌, ◌<◌}
use native.Mathlib.Nat.{pow-suc, mul_assoc, mul_comm, add-zero, mod-lt, mod-one, zero-lt-suc, add-mul, one-mul, le_of_suc-le-suc, max-eq_right, not-suc-le-zero}
use native.Mathlib.Omega.{arith}
use mathlib.Core.Path.{◌≡◌, ◌∙◌, refl, sym, ap, ap₂}
use mathlib.Core.Bool.{Bool, true, false, cond}
use mathlib.Core.List.{List, [], ◌∷◌}
use lib.ListN.{length, get_or, set}
use lib.Arith.{digits_div, digits_mod}
use lib.Pow.{pow_pos, split, shr-shr, mod-pow-add}
use lib.Bits.{bit_or, or_step, or_zero_r, or_block}
use lib.Count.{count_trailing_zeros, under}
use Rattle.model.specs.Bits.{word_of, with_bit}

-- ---- one bit is set by `|`

-- the lowest
odd : (a : ℕ) → bit_or a 1 ≡ a / 2 * 2 + 1
odd a = or_step a 1 ∙ ap₂ (λ (x y : ℕ). x * 2 + y) (or_zero_r (a / 2)) (max-eq_right (le_of_suc-le-suc (mod-lt a (zero-lt-suc 1))))

halves : (w i : ℕ) → w / 2 ^ i / 2 ≡ w / 2 ^ suc i
halves w i = shr-shr w i 1 ∙ ap (λ (n : ℕ). w / 2 ^ n) (omega arith)

pub bit-set : (w i : ℕ) → bit_or w (2 ^ i) ≡ with_bit w i true
unfolding with_bit
bit-set w i =
    ap₂ bit_or (sym (split w i)) one
    ∙ or_block i (w / 2 ^ i) 1 (w % 2 ^ i) 0 (mod-lt w (pow_pos i)) (pow_pos i)
    ∙ ap₂ (λ (x y : ℕ). x * 2 ^ i + y) (odd (w / 2 ^ i)) (or_zero_r (w % 2 ^ i))
    ∙ ap (λ (x : ℕ). x + w % 2 ^ i) above
  where
    one : 2 ^ i ≡ 1 * 2 ^ i + 0
    one = omega arith

    above : (w / 2 ^ i / 2 * 2 + 1) * 2 ^ i ≡ w / 2 ^ suc i * 2 ^ suc i + 2 ^ i
    above =
        ap (λ (x : ℕ). (x * 2 + 1) * 2 ^ i) (halves w i) ∙ add-mul (w / 2 ^ suc i * 2) 1 (2 ^ i)
        ∙ ap₂ (λ (x y : ℕ). x + y) (mul_assoc (w / 2 ^ suc i) 2 (2 ^ i) ∙ ap (λ (x : ℕ). w / 2 ^ suc i * x) (mul_comm 2 (2 ^ i) ∙ sym (pow-suc 2 i))) (one-mul (2 ^ i))

-- and that bit taken away is not set
pub bit-cleared : (w i : ℕ) → with_bit w i true - 2 ^ i ≡ with_bit w i false
unfolding with_bit
bit-cleared w i = omega arith

pub bit_below : (w i : ℕ) → 2 ^ i ≤ with_bit w i true
unfolding with_bit
bit_below w i = omega arith

-- ---- in the word of a list of bits, one bit is one element

-- a lowest digit before the bit stays, and the rest is a word with the bit one lower
bit-later : (w c i : ℕ) (b : Bool) → c < 2 → with_bit (w * 2 + c) (suc i) b ≡ with_bit w i b * 2 + c
unfolding with_bit
bit-later w c i b h =
    ap₂ (λ (x y : ℕ). x * 2 ^ suc (suc i) + cond b (2 ^ suc i) 0 + y) above below ∙ go b
  where
    above : (w * 2 + c) / 2 ^ suc (suc i) ≡ w / 2 ^ suc i
    above =
        ap (λ (n : ℕ). (w * 2 + c) / 2 ^ n) (omega arith) ∙ sym (shr-shr (w * 2 + c) 1 (suc i))
        ∙ ap (λ (x : ℕ). x / 2 ^ suc i) (digits_div w h)

    below : (w * 2 + c) % 2 ^ suc i ≡ w % 2 ^ i * 2 + c
    below =
        ap (λ (n : ℕ). (w * 2 + c) % 2 ^ n) (omega arith) ∙ mod-pow-add (w * 2 + c) i 1
        ∙ ap₂ (λ (x y : ℕ). x % 2 ^ i * 2 + y) (digits_div w h) (digits_mod w h)

    top : w / 2 ^ suc i * 2 ^ suc (suc i) ≡ w / 2 ^ suc i * 2 ^ suc i * 2
    top = ap (λ (x : ℕ). w / 2 ^ suc i * x) (pow-suc 2 (suc i)) ∙ sym (mul_assoc (w / 2 ^ suc i) (2 ^ suc i) 2)

    go : (d : Bool) → w / 2 ^ suc i * 2 ^ suc (suc i) + cond d (2 ^ suc i) 0 + (w % 2 ^ i * 2 + c) ≡ (w / 2 ^ suc i * 2 ^ suc i + cond d (2 ^ i) 0 + w % 2 ^ i) * 2 + c
    go true = let e = top in let f : 2 ^ suc i ≡ 2 ^ i * 2 = pow-suc 2 i in omega (arith, e, f)
    go false = let e = top in omega (arith, e)

bit-lowest : (w c : ℕ) (b : Bool) → c < 2 → with_bit (w * 2 + c) 0 b ≡ w * 2 + cond b 1 0
unfolding with_bit
bit-lowest w c b h =
    ap₂ (λ (x y : ℕ). x * 2 + cond b 1 0 + y) (digits_div w h) (mod-one (w * 2 + c)) ∙ add-zero (w * 2 + cond b 1 0)

digit : (b : Bool) → cond b 1 0 < 2
digit true = omega arith
digit false = omega arith

pub bit_at : (bs : List Bool) (i : ℕ) (b : Bool) → i < length bs → with_bit (word_of bs) i b ≡ word_of (set bs i b)
unfolding word_of
bit_at [] i b h = absurd (not-suc-le-zero h)
bit_at (d ∷ bs) zero b h = bit-lowest (word_of bs) (cond d 1 0) b (digit d)
bit_at (d ∷ bs) (suc i) b h =
    bit-later (word_of bs) (cond d 1 0) i b (digit d) ∙ ap (λ (x : ℕ). x * 2 + cond d 1 0) (bit_at bs i b (omega arith))

-- ---- below the lowest bit that is set, none is

pub bits_below : (bs : List Bool) (k i : ℕ) → i < count_trailing_zeros k (word_of bs) → get_or bs i false ≡ false
unfolding count_trailing_zeros word_of
bits_below [] k i h = refl
bits_below (b ∷ bs) zero i h = absurd (not-suc-le-zero h)
bits_below (b ∷ bs) (suc k) i h = go b i (rw (digits_mod (word_of bs) (digit b), digits_div (word_of bs) (digit b)) at h) (bits_below bs k)
  where
    go : (d : Bool) (j : ℕ) → j < under (cond d 1 0) (count_trailing_zeros k (word_of bs))
        → ((n : ℕ) → n < count_trailing_zeros k (word_of bs) → get_or bs n false ≡ false) → get_or (d ∷ bs) j false ≡ false
    go true j l rest = absurd (not-suc-le-zero l)
    go false zero l rest = refl
    go false (suc j) l rest = rest j (le_of_suc-le-suc l)
