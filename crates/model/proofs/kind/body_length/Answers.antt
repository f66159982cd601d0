-- `body_length` meets its contract: an entry stands for its case, and beyond the table no kind has a row; antt computes both for all
-- kinds at once. Assumes nothing.
use Prim.Native.Nat.{ℕ, ◌+◌, ◌-◌, ◌≤◌, ◌<◌}
use native.Mathlib.Omega.{arith}
use mathlib.Core.Path.{◌≡◌, ◌∙◌, refl, sym, ap}
use mathlib.Core.Bool.{cond}
use lib.Dec.{eqb}
use borrow.Author.Rules.{rules}
use borrow.Author.Tests.{ne_eqb}
use Rattle.std.specs.Prelude.{Option, Some, None}
use Rattle.model.specs.Record.{kinds, row_of, body_length, body_entry}
use Rattle.model.proofs.Table.{agree, agree-from-0}
use Rattle.model.proofs.kind.body_length.Goals as goal

case_of : ℕ → Option ℕ
case_of n = cond (eqb n 255) None (Some n)

within : (k : ℕ) → k < 256 → body_length k ≡ case_of (body_entry (body_length k))
unfolding kinds row_of body_length case_of
within k h = agree-from-0 body_length (λ (i : ℕ). case_of (body_entry (body_length i))) 256 k refl h

beyond : (k : ℕ) → 65 ≤ k → k < 256 → body_length k ≡ None
unfolding kinds row_of body_length
beyond k low high =
    let e : 65 + (k - 65) ≡ k = omega arith in
    rw e at (agree body_length (λ (i : ℕ). None) 65 191 (k - 65) refl (omega arith))

pub returns-then-kind-ge-KINDS : goal.returns-then-kind-ge-KINDS
returns-then-kind-ge-KINDS c = sym (beyond _ c.if-kind-ge-KINDS.true (search rules))

pub returns-then-n : goal.returns-then-n
unfolding case_of
returns-then-n c = sym (within c.args.kind (search rules) ∙ ap case_of (sym c.entry-n.ensures ∙ c.if-n.true))

pub returns-else-n : goal.returns-else-n
unfolding case_of
returns-else-n c = sym (within c.args.kind (search rules) ∙ ap case_of (sym c.entry-n.ensures) ∙ rw (ne_eqb _ _ c.if-n.false, case_of))
