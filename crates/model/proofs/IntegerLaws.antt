-- Laws of differences in ℤ: by which of the two numbers is more, from a number below zero, and as the machine has them. Assumes nothing.
use Prim.Native.Nat.{ℕ, zero, suc, ◌+◌, ◌-◌, ◌^◌, ◌≤◌, ◌<◌}
use native.Mathlib.Nat.{zero-add}
use native.Mathlib.Omega.{arith}
use mathlib.Core.Path.{◌≡◌, ◌∙◌, refl, ap}
use lib.IntN.{ℤ, pos, negsuc, ◌-ℤ◌}
use mir.Syntax.{w32}
use mir.Val.{to_z}
use mir.Facts.{to_z_pos}
use borrow.Author.Tests.{lt-ltb, le-ltb}

pub minus-less : (a b : ℕ) → b ≤ a → pos a -ℤ pos b ≡ pos (a - b)
minus-less a zero h = ap pos (omega arith)
minus-less a (suc b) h = rw (le-ltb a (suc b) h) refl

pub minus-more : (a b : ℕ) → a < b → pos a -ℤ pos b ≡ negsuc (b - suc a)
minus-more a zero h = absurd (omega arith)
minus-more a (suc b) h = rw (lt-ltb a (suc b) h) refl

pub below-minus : (a b : ℕ) → negsuc a -ℤ pos b ≡ negsuc (a + b)
below-minus a zero = rw (lt-ltb 0 (suc a) (omega arith)) (ap negsuc (omega arith))
below-minus a (suc b) = ap negsuc (omega arith)

-- -1 - m, at 32 bits
pub below-minus-one : (m : ℕ) → m < 2 ^ 31 → negsuc 0 -ℤ to_z w32 m ≡ negsuc m
below-minus-one m h = ap (λ (z : ℤ). negsuc 0 -ℤ z) (to_z_pos w32 {n = m} h) ∙ below-minus 0 m ∙ ap negsuc (zero-add m)
