-- Every task passes its current priority on, one after the other: from own priorities that gives the effective ones. Assumes nothing.
use Prim.Native.Nat.{ℕ, zero, suc, ◌≤◌, ◌<◌}
use native.Mathlib.Nat.{le_antisymm}
use native.Mathlib.Decide.{ℕ_discrete}
use native.Mathlib.Omega.{arith}
use mathlib.Core.Path.{◌≡◌, ◌∙◌, refl, ap, subst}
use mathlib.Core.Logic.{◌⊎◌, inl, inr}
use mathlib.Core.List.{List}
use lib.ListN.{length, set}
use lib.Seq.{get_or-set_same, get_or-set_other}
use Rattle.model.specs.Sizes.{tasks}
use Rattle.model.specs.Lists.{◌!◌}
use Rattle.model.specs.Facts.{Facts}
use Rattle.model.specs.Priority.{Linked, step, chain, linked, holder_awaited, own_priority, effective, effectives}
use Rattle.model.specs.Kernel.{Kernel, facts, stands_in, with_tasks, with_currents}
use Rattle.priority.specs.Linked.{linked-agrees, bounded, goes_on}
use Rattle.priority.specs.Least.{least_above}
use Rattle.priority.specs.Effective.{awaited-ends, effective-own, effective-linked}
use Rattle.priority.specs.Walk.{awaited, walked, raised_kernel}
use Rattle.priority.specs.Afresh.{by_task, at_own, passed_on, worked_out}
use Rattle.priority.proofs.StepLaws.{LessUrgent, Stops, unvisited-most, by-steps}
use Rattle.priority.proofs.StartLaws.{by_task-long, by_task-none, by_task-at, by_task-is}

-- ---- what a walk leaves

-- the step from t leads to no less urgent task
abbrev FallsAt : (ℕ → ℕ) → List ℕ → ℕ → Type 0
FallsAt next cs t = 1 ≤ next t → next t ≤ tasks → cs ! next t ≤ cs ! t

module _ (next : ℕ → ℕ) (p : ℕ) where
  -- a task's entry stays, or is raised to p
  abbrev Entry : List ℕ → List ℕ → ℕ → Type 0
  Entry cs ds t = (ds ! t ≡ cs ! t) ⊎ ((ds ! t ≡ p) × (p < cs ! t))

  record Leaves (v : ℕ) (cs ds : List ℕ) : Type 0 where
    long : length ds ≡ suc tasks
    none : ds ! 0 ≡ cs ! 0
    entry : (t : ℕ) → Entry cs ds t
    reached : 1 ≤ v → v ≤ tasks → ds ! v ≤ p
    falls : (t : ℕ) → FallsAt next cs t → FallsAt next ds t

  leaves-stop : (cs : List ℕ) (v : ℕ) → length cs ≡ suc tasks → Stops cs v p → Leaves v cs cs
  leaves-stop cs v long s = record { long = long; none = refl; entry = λ t. inl refl; reached = λ low high. reached low high s; falls = λ t f. f }
    where
      reached : 1 ≤ v → v ≤ tasks → Stops cs v p → cs ! v ≤ p
      reached low high (inl (inl e)) = absurd (omega arith)
      reached low high (inl (inr e)) = absurd (omega arith)
      reached low high (inr urgent) = urgent

  leaves-step : (cs ds : List ℕ) (v : ℕ) → LessUrgent cs v p → Leaves (next v) (set cs v p) ds → Leaves v cs ds
  leaves-step cs ds v task rest =
      record {
        long = rest.long;
        none = rest.none ∙ get_or-set_other cs v 0 p 0 (λ e. omega (arith, task.low));
        entry = λ t. entry t (ℕ_discrete t v) (rest.entry t);
        reached = λ low high. let e = at-v in omega arith;
        falls = λ t f. falls t f (ℕ_discrete t v);
      }
    where
      there : set cs v p ! v ≡ p
      there = get_or-set_same cs v p 0 (omega (arith, task.long, task.high))

      at-v : ds ! v ≡ p
      at-v = go (rest.entry v)
        where
          go : Entry (set cs v p) ds v → ds ! v ≡ p
          go (inl e) = e ∙ there
          go (inr e) = e.0

      entry : (t : ℕ) → Dec (t ≡ v) → Entry (set cs v p) ds t → Entry cs ds t
      entry t (yes q) e = inr (rw q at-v, rw q task.less)
      entry t (no q) e = rw (get_or-set_other cs v t p 0 q) at e

      -- no entry of the list has become less urgent
      lower : (t : ℕ) → Dec (t ≡ v) → set cs v p ! t ≤ cs ! t
      lower t (yes q) = rw (q, there) (omega (arith, task.less))
      lower t (no q) = rw (get_or-set_other cs v t p 0 q) (omega arith)

      falls : (t : ℕ) → FallsAt next cs t → Dec (t ≡ v) → FallsAt next ds t
      falls t f (yes q) = λ low high. rw (q, at-v) (rest.reached (rw q at low) (rw q at high))
      falls t f (no q) = rest.falls t (λ low high. rw (get_or-set_other cs v t p 0 q) (let a = f low high in let b = lower (next t) (ℕ_discrete (next t) v) in omega arith))

  leaves : (cs : List ℕ) (v : ℕ) → length cs ≡ suc tasks → Leaves v cs (walked next (suc tasks) v p cs)
  leaves cs v long = by-steps next p Leaves leaves-stop leaves-step (suc tasks) cs v long (let m = unvisited-most p cs in omega arith)

-- ---- what holds once the first n tasks have passed theirs on

module _ (f : Facts) (places : length f.place ≡ suc tasks) where
  abbrev next : ℕ → ℕ
  next = holder_awaited f

  -- no task is more urgent than its effective priority
  abbrev Above : List ℕ → Type 0
  Above cs = (t : ℕ) → 1 ≤ t → t ≤ tasks → effective f t ≤ cs ! t

  record Settled (n : ℕ) (cs : List ℕ) : Type 0 where
    long : length cs ≡ suc tasks
    none : cs ! 0 ≡ 0
    below : (t : ℕ) → 1 ≤ t → t ≤ tasks → cs ! t ≤ own_priority f t
    above : Above cs
    falls : (t : ℕ) → 1 ≤ t → t ≤ n → FallsAt next cs t

  settled-start : Settled 0 (by_task (own_priority f))
  settled-start =
      record {
        long = by_task-long (own_priority f);
        none = by_task-none (own_priority f);
        below = λ t low high. rw (by_task-at (own_priority f) t low high) (omega arith);
        above = λ t low high. rw (by_task-at (own_priority f) t low high) (effective-own f places t);
        falls = λ t low high. absurd (omega arith);
      }

  -- the next task is at least as urgent
  effective-next : (t : ℕ) → 1 ≤ t → t ≤ tasks → 1 ≤ next t → next t ≤ tasks → effective f (next t) ≤ effective f t
  effective-next t a b low high = effective-linked f places t (next t) a b high (step refl (λ e. omega arith))

  -- a walk raises nobody beyond its effective priority, if it does not begin with such a raise
  module _ (p : ℕ) where
    abbrev Begins : ℕ → Type 0
    Begins v = 1 ≤ v → v ≤ tasks → effective f v ≤ p

    begins-on : {cs : List ℕ} {v : ℕ} → LessUrgent cs v p → Begins v → Begins (next v)
    begins-on {cs} {v} task begins low high = let a = begins task.low task.high in let b = effective-next v task.low task.high low high in omega arith

    above-set : {cs : List ℕ} {v : ℕ} → LessUrgent cs v p → Begins v → Above cs → Above (set cs v p)
    above-set {cs} {v} task begins above t low high = go (ℕ_discrete t v)
      where
        go : Dec (t ≡ v) → effective f t ≤ set cs v p ! t
        go (yes q) = rw (q, get_or-set_same cs v p 0 (omega (arith, task.long, task.high))) (begins task.low task.high)
        go (no q) = rw (get_or-set_other cs v t p 0 q) (above t low high)

    above-walked : (cs : List ℕ) (v : ℕ) → length cs ≡ suc tasks → Begins v → Above cs → Above (walked next (suc tasks) v p cs)
    above-walked cs v long =
        by-steps next p (λ v cs ds. Begins v → Above cs → Above ds) (λ cs v long s begins above. above) (λ cs ds v task rest begins above. rest (begins-on task begins) (above-set task begins above))
        (suc tasks) cs v long (let m = unvisited-most p cs in omega arith)

  settled-step : (n : ℕ) (cs : List ℕ) → n < tasks → Settled n cs → Settled (suc n) (walked next (suc tasks) (next (suc n)) (cs ! suc n) cs)
  settled-step n cs few s =
      record {
        long = left.long;
        none = left.none ∙ s.none;
        below = λ t low high. below t (left.entry t) (s.below t low high);
        above = above-walked p cs (next (suc n)) s.long begins s.above;
        falls = λ t low high. falls t low high (ℕ_discrete t (suc n));
      }
    where
      p : ℕ
      p = cs ! suc n

      ds : List ℕ
      ds = walked next (suc tasks) (next (suc n)) p cs

      left : Leaves next p (next (suc n)) cs ds
      left = leaves next p cs (next (suc n)) s.long

      begins : Begins p (next (suc n))
      begins low high = let a = s.above (suc n) (omega arith) few in let b = effective-next (suc n) (omega arith) few low high in omega arith

      below : (t : ℕ) → Entry next p cs ds t → cs ! t ≤ own_priority f t → ds ! t ≤ own_priority f t
      below t (inl e) h = rw e h
      below t (inr e) h = rw e.0 (omega (arith, e.1))

      -- the task itself stays
      itself : Entry next p cs ds (suc n) → ds ! suc n ≡ p
      itself (inl e) = e
      itself (inr e) = e.0

      falls : (t : ℕ) → 1 ≤ t → t ≤ suc n → Dec (t ≡ suc n) → FallsAt next ds t
      falls t low high (yes q) = rw q (λ a b. rw (itself (left.entry (suc n))) (left.reached a b))
      falls t low high (no q) = left.falls t (s.falls t low (omega arith))

  ends : (t : ℕ) → tasks < t → next t ≡ 0
  ends = awaited-ends f places

  -- once all have, no step leads to a less urgent task, so no chain does
  along : (cs : List ℕ) → ((t : ℕ) → 1 ≤ t → t ≤ tasks → FallsAt next cs t) → {x y : ℕ} → 1 ≤ x → x ≤ tasks → y ≤ tasks → Linked next x y → cs ! y ≤ cs ! x
  along cs falls {x} {y} low high h (step q n) = subst (λ (u : ℕ). cs ! u ≤ cs ! x) q (falls x low high (rw q (omega arith)) (rw q h))
  along cs falls {x} {y} low high h (chain {y = z} q n l) =
      let m : z ≤ tasks = bounded next tasks z ends (goes_on next l) in
      let i = along cs falls {x = z} {y = y} (omega arith) m h l in
      let j : cs ! z ≤ cs ! x = subst (λ (u : ℕ). cs ! u ≤ cs ! x) q (falls x low high (rw q (omega arith)) (rw q m)) in
      omega arith

  settled-below : (cs : List ℕ) → Settled tasks cs → (t : ℕ) → 1 ≤ t → t ≤ tasks → cs ! t ≤ effective f t
  unfolding effective
  settled-below cs s t low high =
      least_above (own_priority f) (λ x. linked next x t) (own_priority f t) tasks (cs ! t) (s.below t low high)
      (λ x a b e. let i = along cs s.falls a b high ((linked-agrees next ends x t high).1 e) in let j = s.below x a b in omega arith)

  settled-all : (cs : List ℕ) → Settled tasks cs → cs ≡ effectives f
  unfolding effectives by_task
  settled-all cs s = by_task-is (effective f) cs s.long s.none (λ t low high. le_antisymm (settled-below cs s t low high) (s.above t low high))

-- ---- one after the other

-- the current priorities once the first n tasks have passed theirs on
unfoldable pub passed : (ℕ → ℕ) → ℕ → List ℕ → List ℕ
passed next zero cs = cs
passed next (suc n) cs = let ds = passed next n cs in walked next (suc tasks) (next (suc n)) (ds ! suc n) ds

pub passed-all : (f : Facts) → length f.place ≡ suc tasks → passed (holder_awaited f) tasks (by_task (own_priority f)) ≡ effectives f
unfolding passed
passed-all f places = settled-all f places (passed (holder_awaited f) tasks (by_task (own_priority f))) (go tasks (omega arith))
  where
    go : (n : ℕ) → n ≤ tasks → Settled f places n (passed (holder_awaited f) n (by_task (own_priority f)))
    go zero h = settled-start f places
    go (suc n) h = settled-step f places n (passed (holder_awaited f) n (by_task (own_priority f))) h (go n (omega arith))

-- the kernel once they have
unfoldable pub passed_so_far : Kernel → ℕ → Kernel
passed_so_far k n = with_currents k (passed (awaited k) n k.tasks.current)

pub passed_start : (k : Kernel) → k ≡ passed_so_far k 0
unfolding passed_so_far passed with_currents with_tasks
passed_start k = refl

pub passed-step : (k : Kernel) (n : ℕ) → passed_on (passed_so_far k n) (suc n) ≡ passed_so_far k (suc n)
unfolding passed_so_far passed passed_on raised_kernel with_currents with_tasks facts stands_in
passed-step k n = refl

pub passed-done : (k : Kernel) → length (facts k).place ≡ suc tasks → passed_so_far (at_own k) tasks ≡ worked_out k
unfolding passed_so_far at_own worked_out with_currents with_tasks facts stands_in
passed-done k places = ap (with_currents k) (passed-all (facts k) places)
