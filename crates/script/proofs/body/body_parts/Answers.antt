-- `body_parts` meets its contract: a row's message is what its body has beyond its fields, and only snd_mbf has one. Assumes nothing.
use Prim.Native.Nat.{ℕ, ◌*◌, ◌-◌, ◌≤◌}
use native.Mathlib.Omega.{arith}
use mathlib.Core.Path.{◌≡◌, ◌∙◌, sym, ap}
use mathlib.Core.Bool.{cond}
use lib.Dec.{eqb}
use borrow.Author.Rules.{rules}
use borrow.Author.Tests.{eq-eqb, ne_eqb}
use Rattle.std.specs.Prelude.{Some}
use Rattle.model.specs.Sizes.{message_bytes}
use Rattle.model.specs.Record.{row_of, body_length}
use Rattle.script.specs.Body.{split_as, body_parts}
use Rattle.script.proofs.Rows.{Known, known-row, unknown-row, no-parts, parts, row-kind, fields_fit, message-size}
use Rattle.script.proofs.body.body_parts.Goals.{then-kind-eq-SND_MBF, else-kind-eq-SND_MBF}
use Rattle.script.proofs.body.body_parts.Goals as goal

-- a kind of the table, with the message that it carries
module _ (kind length message : ℕ) (e : body_length kind ≡ Some length) (m : cond (eqb kind 0x22) message_bytes 0 ≡ message) where
  row : Known (row_of kind) length
  row = known-row kind length e

  carried : row.row.body - 4 * row.row.fields ≡ message
  carried =
      message-size kind row.row row.is ∙ ap (λ (x : ℕ). cond (eqb x 0x22) message_bytes 0) (row-kind kind row.row row.is) ∙ m

  within : message ≤ length
  within = omega (arith, carried, row.body)

  split : split_as (length - message) message ≡ body_parts kind
  split =
      let r = row.row in
      let f : length - message ≡ 4 * r.fields = omega (arith, carried, row.body, fields_fit kind r row.is) in
      ap (λ (x : ℕ). split_as x message) f ∙ ap (split_as (4 * r.fields)) (sym carried) ∙ sym (parts kind r row.is)

pub returns-in_err-length : goal.returns-in_err-length
returns-in_err-length c = c.from_residual.ensures ∙ sym (no-parts _ (unknown-row _ (search (rules, c.body_length.ensures, c.in_err-length.was))))

pub overflow_sub-result : goal.overflow_sub-result
overflow_sub-result c =
    let message : cond (eqb c.args.kind 0x22) message_bytes 0 ≡ c.if-kind-eq-SND_MBF.message =
    elim c.if-kind-eq-SND_MBF.branch [
      | then-kind-eq-SND_MBF w ↦ rw (eq-eqb _ _ w.if-kind-eq-SND_MBF.true) (sym w.message-is)
      | else-kind-eq-SND_MBF w ↦ rw (ne_eqb _ _ w.if-kind-eq-SND_MBF.false) (sym w.message-is)
    ] in
    within _ _ _ (sym c.body_length.ensures ∙ c.in_ok-length.was) message

pub returns : goal.returns
returns c =
    let message : cond (eqb c.args.kind 0x22) message_bytes 0 ≡ c.if-kind-eq-SND_MBF.message =
    elim c.if-kind-eq-SND_MBF.branch [
      | then-kind-eq-SND_MBF w ↦ rw (eq-eqb _ _ w.if-kind-eq-SND_MBF.true) (sym w.message-is)
      | else-kind-eq-SND_MBF w ↦ rw (ne_eqb _ _ w.if-kind-eq-SND_MBF.false) (sym w.message-is)
    ] in
    split _ _ _ (sym c.body_length.ensures ∙ c.in_ok-length.was) message
