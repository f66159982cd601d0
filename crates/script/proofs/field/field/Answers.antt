-- `field` meets its contract: it reads the four bytes that the definition reads, and far beyond the end all of them are 0. Assumes nothing.
use Prim.Native.Nat.{ℕ, ◌+◌, ◌*◌, ◌/◌, ◌≤◌, ◌<◌}
use native.Mathlib.Omega.{arith}
use mathlib.Core.Path.{◌≡◌, ◌∙◌}
use mathlib.Core.List.{List}
use lib.ListN.{length, get_or-eq_default}
use lib.IntN.{pos}
use Rattle.model.specs.Lists.{◌!◌}
use Rattle.model.specs.Record.{field}
use Rattle.script.proofs.Signed.{read_back, reads_signed}
use Rattle.script.proofs.field.field.Goals as goal

module _ (body : List ℕ) (i : ℕ) (h : length body / 4 < i) where
  gone : (k : ℕ) → 4 * i ≤ k → body ! k ≡ 0
  gone k low = get_or-eq_default body 0 {n = k} (omega arith)

  beyond : pos 0 ≡ field body i
  unfolding field
  beyond = rw (gone (4 * i) (omega arith), gone (4 * i + 1) (omega arith), gone (4 * i + 2) (omega arith), gone (4 * i + 3) (omega arith))

pub returns-then-body-i : goal.returns-then-body-i
returns-then-body-i c = beyond c.args.body.now c.args.i c.if-body-i.true

pub returns : goal.returns
unfolding field
returns c =
    rw (← c.byte-low.ensures, ← c.byte-second.ensures, ← c.byte-third.ensures, ← c.byte-high.ensures)
    (read_back c.from_le_bytes.result c.from_le_bytes.type_inv ∙ c.from_le_bytes.ensures ∙ reads_signed _ (omega arith))
