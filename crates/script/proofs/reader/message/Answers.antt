-- `message` meets its contract: the message lies behind the fields that the kind's row counts. Assumes nothing.
use Prim.Native.Nat.{◌<◌, ◌≤◌}
use native.Mathlib.Omega.{arith}
use mathlib.Core.Path.{◌≡◌, ◌∙◌, sym}
use lib.ListN.{length}
use Rattle.std.specs.Prelude.{Some, None}
use Rattle.std.proofs.lemmas.Grind.{common_steps}
use Rattle.model.specs.Lists.{◌!◌}
use Rattle.model.specs.Record.{row_of}
use Rattle.script.specs.Body.{body_parts}
use Rattle.script.proofs.Rows.{KnownParts, row-of-parts, row-of-no-parts, fields_fit, body-short}
use Rattle.script.proofs.Reading.{no-message-at-end, no-message-here, message-at, message-of-parts}
use Rattle.script.proofs.reader.message.Goals as goal

pub returns-in_default : goal.returns-in_default
returns-in_default c =
    let a = c.args in
    let end : length a.script.now ≤ a.c.at = grind (arith, common_steps) in
    sym (no-message-at-end a.script.now a.c.at end)

pub returns-in_default-body_parts : goal.returns-in_default-body_parts
returns-in_default-body_parts c =
    let a = c.args in
    let inside : a.c.at < length a.script.now = grind (arith, common_steps) in
    let unknown : body_parts (a.script.now ! a.c.at) ≡ None = grind (arith, common_steps) in
    sym (message-at a.script.now a.c.at inside ∙ no-message-here a.c.at _ _ (row-of-no-parts _ unknown))

pub overflow_add-c-2 : goal.overflow_add-c-2
overflow_add-c-2 c =
    let a = c.args in
    let b = c.in-Some-body_parts.body in
    let inside : a.c.at < length a.script.now = grind (arith, common_steps) in
    let known : body_parts (a.script.now ! a.c.at) ≡ Some b = grind (arith, common_steps) in
    let found : KnownParts (row_of (a.script.now ! a.c.at)) b.fields b.message = row-of-parts _ _ known in
    omega (arith, c.well_formed, inside, found.fields, fields_fit _ found.row found.is, body-short _ found.row found.is)

pub returns : goal.returns
returns c =
    let a = c.args in
    let b = c.in-Some-body_parts.body in
    let inside : a.c.at < length a.script.now = grind (arith, common_steps) in
    let known : body_parts (a.script.now ! a.c.at) ≡ Some b = grind (arith, common_steps) in
    c.part.ensures ∙ message-of-parts a.script.now a.c.at _ _ inside (row-of-parts _ _ known)
