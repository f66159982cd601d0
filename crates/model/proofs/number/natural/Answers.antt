-- `natural` meets its contract: the sign of the field picks the case. Assumes nothing.
use native.Mathlib.Omega.{arith}
use mathlib.Core.Path.{◌≡◌, refl}
use mathlib.Core.Bool.{true, false, true≢false}
use lib.Dec.{T}
use lib.IntN.{ℤ, pos, negsuc, nat_abs}
use lib.Signed.{lt_z, non_neg}
use mir.Syntax.{w32}
use mir.Val.{Fits, SFits}
use mir.Facts.{to_z-of_z}
use borrow.Author.Tests.{ltb-true}
use Rattle.model.specs.Code.{number}
use Rattle.model.proofs.number.natural.Goals as goal

below : (n : ℤ) → lt_z n (pos 0) ≡ true → 0 ≡ number n
below (pos n) e = let h = ltb-true n 0 e in absurd (omega arith)
below (negsuc n) e = refl

above : (n : ℤ) → lt_z n (pos 0) ≡ false → nat_abs n ≡ number n
above (pos n) e = refl
above (negsuc n) e = absurd (true≢false e)

fits : (n : ℤ) → lt_z n (pos 0) ≡ false → SFits w32 n → T (non_neg n) × Fits w32 (nat_abs n)
fits (pos n) e h = (tt, record { fits = omega (arith, h.sfits) })
fits (negsuc n) e h = absurd (true≢false e)

pub overflow_cast-result : goal.overflow_cast-result
overflow_cast-result c = let e = to_z-of_z c.ranges.n in rw e (fits c.args.n (rw e at c.if-n-lt0.false) c.ranges.n)

pub returns-then-n-lt0 : goal.returns-then-n-lt0
returns-then-n-lt0 c = below c.args.n (rw (to_z-of_z c.ranges.n) at c.if-n-lt0.true)

pub returns-else-n-lt0 : goal.returns-else-n-lt0
returns-else-n-lt0 c = let e = to_z-of_z c.ranges.n in rw e (above c.args.n (rw e at c.if-n-lt0.false))
