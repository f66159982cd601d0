-- `field_number` meets its contract: a field below 0 is as good as 0. Assumes nothing.
use Prim.Native.Nat.{ℕ}
use native.Mathlib.Omega.{arith}
use mathlib.Core.Path.{◌≡◌, ◌∙◌, refl}
use lib.IntN.{ℤ, pos, negsuc}
use mir.Facts.{to_z-of_z}
use borrow.Author.Tests.{le-ltb}
use Rattle.model.specs.Code.{number}
use Rattle.model.specs.Number.{field_number, word_number}
use Rattle.model.proofs.number.field_number.Goals as goal

by_number : (n : ℤ) (last : ℕ) → word_number (number n) last ≡ field_number n last
unfolding field_number word_number
by_number (pos n) last = refl
by_number (negsuc n) last = rw (le-ltb last 0 (omega arith))

pub returns : goal.returns
returns c =
    let e = to_z-of_z c.ranges.n in
    c.word_number.ensures ∙ rw (c.natural.ensures, e) (by_number c.args.n c.args.last)
