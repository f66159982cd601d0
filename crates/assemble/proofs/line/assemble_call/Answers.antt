-- `assemble_call` meets its contract, part by part. Assumes nothing.
use Rattle.std.proofs.Common.{◌/◌, ◌++◌, sym, arith, rules, drop, length-take-le}
use Rattle.assemble.specs.declared.reason.Reason.TheVariants.{UnknownCall, LeftOver}
use Rattle.assemble.specs.Lines.{no_fields}
use Rattle.assemble.proofs.Lines.{bad-line, no-parts, few-fields, call-of-three, right-size, fields-bad, message-bad, left_over, whole-call}
use Rattle.assemble.proofs.line.assemble_call.Goals as goal

pub returns-in_err-body : goal.returns-in_err-body
returns-in_err-body c = bad-line _ _ _ _ UnknownCall (no-parts _ _ _ (grind arith)) (grind arith)

pub slice_bounds-values-end : goal.slice_bounds-values-end
slice_bounds-values-end c = few-fields c.args.kind c.in_ok-body.body (grind arith)

pub slice_bounds-read_fields-end : goal.slice_bounds-read_fields-end
slice_bounds-read_fields-end c = sym (length-take-le _ no_fields (few-fields c.args.kind c.in_ok-body.body (grind arith)))

pub returns-in_err-behind : goal.returns-in_err-behind
returns-in_err-behind c =
    bad-line _ _ _ _ c.in_err-behind.field-0.0
    (fields-bad _ c.in_ok-body.body (grind arith) _ _ _ _ c.read_fields.ensures _ (grind arith)) (grind arith)

pub returns-in_err-end : goal.returns-in_err-end
returns-in_err-end c =
    bad-line _ _ _ _ c.in_err-end.field-0.0
    (message-bad _ c.in_ok-body.body (grind arith) _ _ _ _ c.read_fields.ensures c.in_ok-behind.behind (grind arith) _ _ c.read_message.ensures _ (grind arith))
    (grind arith)

pub returns-then-not-is_over : goal.returns-then-not-is_over
returns-then-not-is_over c =
    bad-line _ _ _ _ LeftOver
    (left_over _ c.in_ok-body.body (grind arith) _ _ _ _ c.read_fields.ensures c.in_ok-behind.behind (grind arith) _ _ c.read_message.ensures
    c.in_ok-end.end (grind arith) c.is_over.result (grind arith) (grind arith))
    (grind arith)

pub write_call-requires : goal.write_call-requires
write_call-requires c =
    let values = c.read_fields.new.values ++ drop (c.in_ok-body.body.fields / 4) no_fields in
    let call = call-of-three _ c.in_ok-body.body (grind arith) values _ (search rules) (search rules) (search rules) c.call_of-call.ensures in
    right-size _ c.in_ok-body.body (grind arith) values _ _ _ call (search rules) c.part.ensures

pub returns : goal.returns
returns c =
    let values = c.read_fields.new.values ++ drop (c.in_ok-body.body.fields / 4) no_fields in
    let call = call-of-three _ c.in_ok-body.body (grind arith) values _ (search rules) (search rules) (search rules) c.call_of-call.ensures in
    let whole = whole-call _ c.in_ok-body.body (grind arith) _ _ _ _ c.read_fields.ensures c.in_ok-behind.behind (grind arith) _ _ c.read_message.ensures
    c.in_ok-end.end (grind arith) c.is_over.result (grind arith) (grind arith) in
    rw (whole, sym call, sym c.part.ensures) c.write_call.ensures
