-- Signed numbers by their sign. Assumes nothing.
use Prim.Native.Nat.{ℕ, ◌+◌}
use native.Mathlib.Nat.{not-suc-le-zero}
use native.Mathlib.Omega.{arith}
use mathlib.Core.Path.{◌≡◌, refl, sym}
use mathlib.Core.Bool.{true, false, true≢false}
use mathlib.Core.List.{List, append-nil}
use lib.IntN.{ℤ, pos, negsuc}
use lib.Signed.{mag, lt_z}
use borrow.Author.Tests.{ltb-true}
use Rattle.script.specs.Place.{Appends, Wrote}
use Rattle.script.proofs.Appending.{wrote, wrote-more}
use Rattle.text.specs.Names.{ascii, error_name}
use Rattle.text.specs.Names.{size}
use Rattle.text.specs.Numbers.{decimal, signed_decimal, code_text}

pub size_below : (z : ℤ) → lt_z z (pos 0) ≡ true → mag z + 1 ≡ size z
size_below (pos n) e = absurd (not-suc-le-zero (ltb-true n 0 e))
size_below (negsuc n) e = omega arith

pub size-from-zero : (z : ℤ) → lt_z z (pos 0) ≡ false → mag z ≡ size z
size-from-zero (pos n) e = refl
size-from-zero (negsuc n) e = absurd (true≢false e)

-- what is put by the sign: of a number as the machine reads it back
module _ {line after : List ℕ} {at next : ℕ} where
  pub signed_below : (z : ℤ) {y : ℤ} {mid : List ℕ} {i n : ℕ} → y ≡ z → lt_z y (pos 0) ≡ true → n ≡ size y → Appends line at (ascii "-") mid i
      → Appends mid i (decimal n) after next → Wrote line at (signed_decimal z) after next
  unfolding signed_decimal
  signed_below (pos n) same e s p q = absurd (not-suc-le-zero (ltb-true n 0 (rw same at e)))
  signed_below (negsuc n) same e s p q = rw (sym (rw same at s)) (wrote-more (wrote p) (wrote q))

  pub signed-from-zero : (z : ℤ) {y : ℤ} {n : ℕ} → y ≡ z → lt_z y (pos 0) ≡ false → n ≡ size y → Appends line at (decimal n) after next
      → Wrote line at (signed_decimal z) after next
  unfolding signed_decimal
  signed-from-zero (pos n) same e s p = rw (sym (rw same at s)) (wrote p)
  signed-from-zero (negsuc n) same e s p = absurd (true≢false (rw same at e))

  pub code_below : (z : ℤ) {y : ℤ} {mid : List ℕ} {i n : ℕ} → y ≡ z → lt_z y (pos 0) ≡ true → n ≡ size y → Wrote line at (signed_decimal y) mid i
      → Appends mid i (error_name n) after next → Wrote line at (code_text z) after next
  unfolding code_text
  code_below (pos n) same e s p q = absurd (not-suc-le-zero (ltb-true n 0 (rw same at e)))
  code_below (negsuc n) same e s p q = rw (sym (rw same at s)) (wrote-more (rw same at p) (wrote q))

  pub code-from-zero : (z : ℤ) {y : ℤ} → y ≡ z → lt_z y (pos 0) ≡ false → Wrote line at (signed_decimal y) after next → Wrote line at (code_text z) after next
  unfolding code_text
  code-from-zero (pos n) same e p = rw append-nil (rw same at p)
  code-from-zero (negsuc n) same e p = absurd (true≢false (rw same at e))
