-- `put_here` meets its contract, case by case. Assumes nothing.
use mathlib.Core.Path.{◌∙◌, sym}
use Rattle.text.proofs.Here.{here_end, here-unknown, here-cut, here-call}
use Rattle.text.proofs.place.put_here.Goals as goal

pub returns-then-script-place : goal.returns-then-script-place
returns-then-script-place c =
    let a = c.args in
    here_end a.script.now a.place c.if-script-place.true c.put.ensures

pub returns-in_default : goal.returns-in_default
returns-in_default c =
    let a = c.args in
    here-unknown a.script.now a.place c.if-script-place.false
    (sym c.body_length.ensures ∙ c.in_default.is) c.put_unknown.ensures

pub returns-then-body-needs : goal.returns-then-body-needs
returns-then-body-needs c =
    let a = c.args in
    here-cut a.script.now a.place c.if-script-place.false
    (sym c.body_length.ensures ∙ c.in-Some.is) c.if-body-needs.true
    c.put_cut.ensures

pub returns : goal.returns
returns c =
    let a = c.args in
    here-call a.script.now a.place c.if-script-place.false (sym c.body_length.ensures ∙ c.in-Some.is)
    c.if-body-needs.false c.put_call-next.ensures
    c.message.ensures c.put_message.ensures
