-- `write_record` meets its contract: the parts of the body are those of the call's kind, and the bytes put into the area are the record's. Assumes nothing.
use Prim.Native.Nat.{◌+◌, ◌≤◌}
use native.Mathlib.Omega.{arith}
use mathlib.Core.Bool.{not}
use mathlib.Core.Path.{◌≡◌, ◌∙◌, sym, ap}
use lib.ListN.{length, take}
use lib.Seq.{length-take-le}
use borrow.Author.Tests.{leb-true, leb-false, not-true, not-false}
use Rattle.std.specs.Prelude.{Some, None}
use Rattle.std.proofs.lemmas.Grind.{common_steps}
use Rattle.model.specs.Record.{kind_of, record_bytes}
use Rattle.script.specs.Body.{body_parts}
use Rattle.script.specs.Write.{call_head, head_bytes}
use Rattle.script.proofs.Writing.{in-table, fields-short, message-of-call, parts-length, parts-bytes, wrong, no_room, appended}
use Rattle.script.proofs.writer.write_record.Goals as goal

pub returns-in_err-body : goal.returns-in_err-body
unfolding call_head
returns-in_err-body c =
    let none : body_parts (kind_of c.args.call) ≡ None = grind (arith, common_steps) in
    absurd (in-table c.args.call none)

pub returns-then-message-body : goal.returns-then-message-body
unfolding call_head
returns-then-message-body c =
    let known : body_parts (kind_of c.args.call) ≡ Some c.in_ok-body.body = grind (arith, common_steps) in
    wrong _ _ _ _ (λ e. c.if-message-body.true (e ∙ sym (message-of-call _ _ known)))

pub overflow_add-length : goal.overflow_add-length
unfolding call_head
overflow_add-length c =
    let known : body_parts (kind_of c.args.call) ≡ Some c.in_ok-body.body = grind (arith, common_steps) in
    omega (arith, fields-short _ _ known)

pub overflow_add-length-2 : goal.overflow_add-length-2
unfolding call_head
overflow_add-length-2 c =
    let known : body_parts (kind_of c.args.call) ≡ Some c.in_ok-body.body = grind (arith, common_steps) in
    omega (arith, fields-short _ _ known, c.well_formed)

pub returns-then-not-room : goal.returns-then-not-room
unfolding call_head
returns-then-not-room c =
    let a = c.args in
    let known : body_parts (kind_of a.call) ≡ Some c.in_ok-body.body = grind (arith, common_steps) in
    no_room a.area.now a.at a.call a.message.now (c.if-message-body.false ∙ message-of-call _ _ known)
    (rw (← parts-length a.call c.in_ok-body.body known a.message.now) (leb-false _ _ (sym c.room.ensures ∙ not-true _ (ap not c.if-not-room.true))))

pub slice_bounds-bytes-end : goal.slice_bounds-bytes-end
unfolding call_head
slice_bounds-bytes-end c =
    let known : body_parts (kind_of c.args.call) ≡ Some c.in_ok-body.body = grind (arith, common_steps) in
    let thirteen : length c.head_bytes-bytes.result ≡ 13 = ap length c.head_bytes-bytes.ensures in
    omega (arith, fields-short _ _ known)

pub slice_bounds-put_two-end : goal.slice_bounds-put_two-end
unfolding call_head
slice_bounds-put_two-end c =
    let known : body_parts (kind_of c.args.call) ≡ Some c.in_ok-body.body = grind (arith, common_steps) in
    let thirteen : length c.head_bytes-bytes.result ≡ 13 = ap length c.head_bytes-bytes.ensures in
    sym (length-take-le _ c.head_bytes-bytes.result (omega (arith, fields-short _ _ known)))

pub returns : goal.returns
unfolding call_head
returns c =
    let a = c.args in
    let b = c.in_ok-body.body in
    let known : body_parts (kind_of a.call) ≡ Some b = grind (arith, common_steps) in
    let bytes : take (1 + b.fields) c.head_bytes-bytes.result ≡ take (1 + b.fields) (head_bytes (call_head a.call)) =
    ap (take (1 + b.fields)) (c.head_bytes-bytes.ensures ∙ ap head_bytes c.call_head-head.ensures) in
    let fits : a.at + length (record_bytes a.call a.message.now) ≤ length a.area.now =
    rw (← parts-length a.call b known a.message.now) (leb-true _ _ (sym c.room.ensures ∙ not-false _ (ap not c.if-not-room.false)))
    in
    appended a.area.now a.at a.call a.message.now (c.if-message-body.false ∙ message-of-call _ _ known) _ _ fits
    (rw (bytes, parts-bytes a.call b known a.message.now) at c.put_two.ensures)
