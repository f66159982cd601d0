-- `read_record` meets its contract: each answer is one case of the definition. Assumes nothing.
use Prim.Native.Nat.{ℕ, ◌+◌, ◌-◌, ◌<◌, ◌≤◌}
use native.Mathlib.Omega.{arith}
use mathlib.Core.Path.{◌≡◌, ◌∙◌, sym, ap}
use lib.ListN.{length}
use Rattle.std.specs.Prelude.{Some, None}
use Rattle.std.proofs.lemmas.Grind.{common_steps}
use Rattle.model.specs.Lists.{◌!◌}
use Rattle.model.specs.Record.{kinds, stopped, body_length}
use Rattle.script.specs.Body.{call_in}
use Rattle.script.proofs.Rows.{known-row, unknown-row}
use Rattle.script.proofs.Making.{three_back, same}
use Rattle.script.proofs.Reading.{stop-at-end, read_at, unknown-here, cut_at, whole-at}
use Rattle.script.proofs.reader.read_record.Goals as goal

pub returns-in_err-kind : goal.returns-in_err-kind
returns-in_err-kind c =
    let a = c.args in
    let end : length a.script.now ≤ a.c.at = grind (arith, common_steps) in
    let stop : c.from_residual.result ≡ stopped a.c.at = grind (arith, common_steps) in
    stop ∙ sym (stop-at-end a.script.now a.c.at end)

pub returns-in_err-length : goal.returns-in_err-length
returns-in_err-length c =
    let a = c.args in
    let inside : a.c.at < length a.script.now = grind (arith, common_steps) in
    let unknown : body_length (a.script.now ! a.c.at) ≡ None = grind (arith, common_steps) in
    let stop : c.from_residual-in_err-length.result ≡ stopped a.c.at = grind (arith, common_steps) in
    stop ∙ sym (read_at a.script.now a.c.at inside ∙ unknown-here a.c.at _ _ (unknown-row _ unknown))

pub returns-then-script-start : goal.returns-then-script-start
returns-then-script-start c =
    let a = c.args in
    let inside : a.c.at < length a.script.now = grind (arith, common_steps) in
    let known : body_length (a.script.now ! a.c.at) ≡ Some c.in_ok-length.length = grind (arith, common_steps) in
    sym (cut_at a.script.now a.c.at _ inside (known-row _ _ known) c.if-script-start.true)

pub returns : goal.returns
returns c =
    let a = c.args in
    let inside : a.c.at < length a.script.now = grind (arith, common_steps) in
    let kind : c.in_ok-kind.field-0.now ≡ a.script.now ! a.c.at = grind (arith, common_steps) in
    let known : body_length (a.script.now ! a.c.at) ≡ Some c.in_ok-length.length = grind (arith, common_steps) in
    let n = c.in_ok-length.length in
    let size : a.c.at + 1 + n - (a.c.at + 1) ≡ n = omega arith in
    let f = c.field in
    let g = c.field-2 in
    let h = c.field-3 in
    let fields = same {a = f.result} {b = g.result} {c = h.result} (record { sfits = f.type_inv }) (record { sfits = g.type_inv }) (record { sfits = h.type_inv }) in
    whole-at a.script.now a.c.at n inside (known-row _ _ known) c.if-script-start.false (a.c.at + 1 + n - (a.c.at + 1)) size c.call_of-call.result
    (c.call_of-call.ensures ∙ ap (λ (k : ℕ). call_in kinds k (three_back f.result g.result h.result)) kind ∙ ap (call_in kinds (a.script.now ! a.c.at)) (fields ∙ cc))
