-- `copy_in` meets its contract. The loop's invariant says what is left to store; it ends at the end of the message or of the slice. Assumes nothing.
use native.Mathlib.Omega.{arith}
use mathlib.Core.Path.{◌∙◌, sym}
use lib.ListN.{take, length-take}
use lib.Seq.{get_or-take}
use Rattle.message.proofs.Stores.{left-all, left-turn, left-none, sets-out}
use Rattle.message.proofs.copy.copy_in.Goals as goal

pub loop-i-init : goal.loop-i-init
loop-i-init c = (omega arith, left-all)

pub loop-i-preserved : goal.loop-i-preserved
loop-i-preserved c =
    let l = c.loop-i in
    let a = c.args in
    let part = length-take c.min-count.result a.m.now in
    let all = length-take a.n a.m.now in (
      omega (arith, part),
      left-turn l.invariant.1 (omega (arith, part, all)) (get_or-take a.n a.m.now l.i 0 (omega (arith, part)) ∙ sym (get_or-take c.min-count.result a.m.now l.i 0 (omega (arith, part)))),
    )

pub returns-after-loop-i : goal.returns-after-loop-i
returns-after-loop-i c =
    let l = c.loop-i in
    let a = c.args in
    left-none l.invariant.1 (omega (arith, length-take c.min-count.result a.m.now, length-take a.n a.m.now))

pub returns-else-at-r : goal.returns-else-at-r
returns-else-at-r c =
    let a = c.args in
    sym (sets-out (take a.n a.m.now) a.r.now a.at c.if-at-r.false)
