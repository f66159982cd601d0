-- `most_urgent` meets its contract. The loop's invariant: the best from here on, from the best so far, is the best at all. Assumes nothing.
use Prim.Native.Nat.{ℕ, ◌+◌}
use native.Mathlib.Omega.{arith}
use mathlib.Core.Path.{◌≡◌, ◌∙◌, refl, sym, ap}
use mathlib.Core.Bool.{cond}
use Rattle.model.specs.Lists.{◌!◌}
use Rattle.model.specs.Facts.{queue}
use Rattle.model.specs.Kernel.{numbered, stands_in}
use Rattle.model.specs.Words.{kernel}
use Rattle.queue.specs.Better.{better}
use Rattle.queue.proofs.Search.{best-more, best-end, best-of-all}
use Rattle.state.proofs.WordLaws.{long, arrivals-long}
use Rattle.queue.proofs.front.most_urgent.Invariants.{left}
use Rattle.queue.proofs.front.most_urgent.Goals as goal

pub loop-i-init : goal.loop-i-init
loop-i-init c = (refl, omega arith)

pub loop-i-smaller : goal.loop-i-smaller
loop-i-smaller c = omega arith

pub loop-i-preserved : goal.loop-i-preserved
loop-i-preserved c =
    let a = c.args in
    let k = kernel a.state.now in
    let p = stands_in k (queue a.place a.object) in
    let cur = numbered k.tasks.current in
    let l = c.loop-i in
    let e : c.best_with-best.result ≡ cond (p (k.arrivals ! l.i)) (better cur l.best (k.arrivals ! l.i)) l.best =
    c.best_with-best.ensures ∙ ap (λ (u : ℕ). cond (p u) (better cur l.best u) l.best) c.task.ensures in (
      l.invariant.0 ∙ best-more p k.arrivals l.i cur l.best (omega (arith, arrivals-long a.state.now (long _ c.told-state)))
          ∙ ap (λ (n : ℕ). left a.state.now a.place a.object n (l.i + 1)) (sym e),
      omega arith,
    )

pub returns : goal.returns
returns c =
    let a = c.args in
    let k = kernel a.state.now in
    let q = queue a.place a.object in
    let l = c.loop-i in
    sym (l.invariant.0 ∙ best-end (stands_in k q) k.arrivals l.i (numbered k.tasks.current) l.best (omega (arith, arrivals-long a.state.now (long _ c.told-state))))
    ∙ best-of-all k q
