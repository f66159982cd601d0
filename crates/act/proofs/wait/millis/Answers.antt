-- `millis` meets its contract: the sign of the timeout picks the case. Assumes nothing.
use native.Mathlib.Omega.{arith}
use mathlib.Core.Path.{◌≡◌, ◌∙◌, refl}
use mathlib.Core.Bool.{true, false, true≢false}
use lib.IntN.{ℤ, pos, negsuc}
use lib.Signed.{lt_z}
use mir.Facts.{to_z-of_z}
use borrow.Author.Tests.{ltb-true}
use Rattle.model.specs.Sizes.{endless}
use Rattle.model.specs.Code.{number}
use Rattle.model.specs.Act.{millis}
use Rattle.act.proofs.wait.millis.Goals as goal

below : (n : ℤ) → lt_z n (pos 0) ≡ true → endless ≡ millis n
below (pos n) e = let h = ltb-true n 0 e in absurd (omega arith)
below (negsuc n) e = refl

above : (n : ℤ) → lt_z n (pos 0) ≡ false → number n ≡ millis n
above (pos n) e = refl
above (negsuc n) e = absurd (true≢false e)

pub returns-then-timeout-lt0 : goal.returns-then-timeout-lt0
returns-then-timeout-lt0 c = below c.args.timeout (rw (to_z-of_z c.ranges.timeout) at c.if-timeout-lt0.true)

pub returns-else-timeout-lt0 : goal.returns-else-timeout-lt0
returns-else-timeout-lt0 c =
    let e = to_z-of_z c.ranges.timeout in
    c.natural.ensures ∙ rw e (above c.args.timeout (rw e at c.if-timeout-lt0.false))
