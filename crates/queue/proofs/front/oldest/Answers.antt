-- `oldest` meets its contract. The loop's invariant: what is found from here on is what is found at all. Assumes nothing.
use native.Mathlib.Omega.{arith}
use mathlib.Core.Path.{◌∙◌, refl, sym, ap}
use Rattle.model.specs.Lists.{head_of}
use Rattle.model.specs.Facts.{queue}
use Rattle.model.specs.Kernel.{stands_in}
use Rattle.model.specs.Words.{kernel}
use Rattle.queue.proofs.Search.{nobody-left, first-hit, first-miss}
use Rattle.state.proofs.WordLaws.{long, arrivals-long}
use Rattle.queue.proofs.front.oldest.Goals as goal

pub loop-i-init : goal.loop-i-init
loop-i-init c = (refl, omega arith)

pub returns-then-stands_in : goal.returns-then-stands_in
returns-then-stands_in c =
    let a = c.args in
    let k = kernel a.state.now in
    let e = c.task-u.ensures in
    let s = ap (stands_in k (queue a.place a.object)) (sym e) ∙ sym c.stands_in.ensures ∙ c.if-stands_in.true in
    e ∙ sym (c.loop-i.invariant.0 ∙ first-hit (stands_in k (queue a.place a.object)) k.arrivals c.loop-i.i (omega (arith, arrivals-long a.state.now (long _ c.told-state))) s)

pub loop-i-smaller : goal.loop-i-smaller
loop-i-smaller c = omega arith

pub loop-i-preserved : goal.loop-i-preserved
loop-i-preserved c =
    let a = c.args in
    let k = kernel a.state.now in
    let s = ap (stands_in k (queue a.place a.object)) (sym c.task-u.ensures) ∙ sym c.stands_in.ensures ∙ c.if-stands_in.false in
    (c.loop-i.invariant.0 ∙ first-miss (stands_in k (queue a.place a.object)) k.arrivals c.loop-i.i (omega (arith, arrivals-long a.state.now (long _ c.told-state))) s, omega arith)

pub returns : goal.returns
returns c =
    let a = c.args in
    let k = kernel a.state.now in
    sym (c.loop-i.invariant.0 ∙ ap head_of (nobody-left (stands_in k (queue a.place a.object)) k.arrivals c.loop-i.i (omega (arith, arrivals-long a.state.now (long _ c.told-state)))))
