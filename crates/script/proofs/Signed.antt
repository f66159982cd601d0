-- Signed numbers of 32 bits: as the machine has them, and the definition's `signed` and `bits`, which are inverse to each other.
-- Assumes nothing.
use Prim.Native.Nat.{ℕ, suc, ◌-◌, ◌^◌, ◌≤◌, ◌<◌}
use native.Mathlib.Omega.{arith}
use mathlib.Core.Path.{◌≡◌, ◌∙◌, refl, sym, ap}
use mathlib.Core.Bool.{Bool, true, false}
use lib.IntN.{ℤ, pos, negsuc}
use lib.Signed.{mag}
use lib.Dec.{ltb}
use mir.Syntax.{w32}
use mir.Val.{to_z, of_z}
use mir.Facts.{to_z-of_z}
use borrow.Author.Tests.{lt-ltb, le-ltb, ltb-true, ltb-false}
use Rattle.model.specs.Code.{minus, signed, bits}

-- a signed number as the machine reads it back from its bits
pub read_back : (z : ℤ) → mag z < 2 ^ 31 → to_z w32 (of_z w32 z) ≡ z
read_back z h = to_z-of_z {w = w32} {z = z} (record { sfits = h })

pub signed_low : (n : ℕ) → n < 2 ^ 31 → signed n ≡ pos n
signed_low n h = rw (lt-ltb n (2 ^ 31) h)

pub signed_high : (n : ℕ) → 2 ^ 31 ≤ n → n < 2 ^ 32 → signed n ≡ negsuc (2 ^ 32 - 1 - n)
signed_high n low high =
    let e : 2 ^ 32 - n ≡ suc (2 ^ 32 - 1 - n) = omega arith in
    rw (le-ltb n (2 ^ 31) low) (ap minus e)

-- the machine's reading of 32 bits is the definition's
module _ (n : ℕ) (h : n < 2 ^ 32) where
  read_by-half : (low : Bool) → ltb n (2 ^ 31) ≡ low → to_z w32 n ≡ signed n
  read_by-half true e = rw e refl
  read_by-half false e =
      let k : 2 ^ 32 - n ≡ suc (2 ^ 32 - suc n) = omega arith in
      rw e (sym (ap minus k))

  pub reads_signed : to_z w32 n ≡ signed n
  reads_signed = read_by-half (ltb n (2 ^ 31)) refl

pub signed-bits : (z : ℤ) → mag z < 2 ^ 31 → signed (bits z) ≡ z
signed-bits (pos n) h = signed_low n h
signed-bits (negsuc n) h =
    signed_high (2 ^ 32 - suc n) (omega arith) (omega arith) ∙ ap negsuc (omega arith)

module _ (n : ℕ) (h : n < 2 ^ 32) where
  by-half : (low : Bool) → ltb n (2 ^ 31) ≡ low → bits (signed n) ≡ n
  by-half true e = ap bits (signed_low n (ltb-true n (2 ^ 31) e))
  by-half false e = ap bits (signed_high n (ltb-false n (2 ^ 31) e) h) ∙ omega (arith, ltb-false n (2 ^ 31) e)

  pub bits-signed : bits (signed n) ≡ n
  bits-signed = by-half (ltb n (2 ^ 31)) refl
