-- The fewest digits that hold a number are its decimal. Assumes nothing.
use Prim.Native.Nat.pow
use Prim.Native.Nat.{ℕ, zero, suc, ◌+◌, ◌*◌, ◌-◌, ◌/◌, ◌%◌, ◌^◌, ◌≤◌, ◌<◌}
use native.Mathlib.Nat.{add-zero, add-suc}
use native.Mathlib.Decide.{dec_le}
use native.Mathlib.Omega.{arith}
use mathlib.Core.Path.{◌≡◌, ◌∙◌, sym, ap, ap₂}
use mathlib.Core.List.{List, [], ◌∷◌, ◌++◌}
use Rattle.model.proofs.Terms.{lt-ltb, le-ltb}
use Rattle.io.specs.Digits.{hex_digit_ascii, last_digits, IsDigitCount}
use Rattle.text.specs.Numbers.{digit, digits_of, decimal}

glyph-digit : (d : ℕ) → d < 10 → hex_digit_ascii d ≡ digit d
glyph-digit d h = rw (lt-ltb d 10 h)

power : (k : ℕ) → 10 ^ suc k ≡ 10 * 10 ^ k
power k = pow.suc 10 k ∙ omega arith

one-at-least : (k : ℕ) → 1 ≤ 10 ^ k
one-at-least zero = omega arith
one-at-least (suc k) = omega (arith, one-at-least k, power k)

fewest : (k n most : ℕ) → IsDigitCount 10 1 n k → k ≤ most → last_digits 10 k n ≡ digits_of most n
fewest zero n most f h = absurd (let z : 1 ≤ 0 = f.0 in omega arith)
fewest (suc k) n zero f h = absurd (omega arith)
fewest (suc zero) n (suc most) f h =
    let small : n < 10 = f.1 in
    let same : n % 10 ≡ n = omega arith in
    rw (lt-ltb n 10 small, digits_of, same) (ap (λ (d : ℕ). d ∷ []) (glyph-digit n small))
fewest (suc (suc k)) n (suc most) f h =
    let below : n < 10 * 10 ^ suc k = rw (sym (power (suc k))) f.1 in
    let less : suc (suc k) - 1 ≡ suc k = omega arith in
    let large : 10 * 10 ^ k ≤ n = rw (sym (power k)) (rw less at (f.2 (omega arith))) in
    let ten : 10 ≤ n = omega (arith, one-at-least k) in
    let same : suc k - 1 ≡ k = omega arith in
    let tenth : IsDigitCount 10 1 (n / 10) (suc k) = (omega arith, omega arith, λ m. rw same (omega arith)) in
    rw (le-ltb n 10 ten, digits_of)
    (ap₂ (λ (l : List ℕ) (d : ℕ). l ++ d ∷ []) (fewest (suc k) (n / 10) most tenth (omega arith)) (glyph-digit (n % 10) (omega arith)))

-- and a number of 64 bits has at most 20 of them
grows : (a j : ℕ) → 10 ^ a ≤ 10 ^ (a + j)
grows a zero = rw (add-zero a) (omega arith)
grows a (suc j) = rw (add-suc a j) (omega (arith, grows a j, power (a + j)))

short : (k n : ℕ) → n < 2 ^ 64 → IsDigitCount 10 1 n k → k ≤ 20
short k n h f =
    elim (dec_le k 20) [
      | yes few ↦ few
      | no many ↦
          let more : 21 ≤ k = omega (arith, many) in
          let same : k - 1 ≡ 20 + (k - 21) = omega arith in
          let large : 10 ^ (20 + (k - 21)) ≤ n = rw same at (f.2 (omega arith)) in
          absurd (omega (arith, grows 20 (k - 21)))
    ]

pub is-decimal : (k n : ℕ) → n < 2 ^ 64 → IsDigitCount 10 1 n k → last_digits 10 k n ≡ decimal n
unfolding decimal
is-decimal k n h f = fewest k n 20 f (short k n h f)
