-- Every current priority starts from the task's own: the two loops, task by task and mutex by mutex. Assumes nothing.
use Prim.Native.Nat.{ℕ, zero, suc, ◌≤◌, ◌<◌}
use native.Mathlib.Numerals.{one-add}
use native.Mathlib.Decide.{ℕ_discrete, dec_le}
use native.Mathlib.Omega.{arith}
use mathlib.Core.Path.{◌≡◌, ◌∙◌, refl, sym, ap}
use mathlib.Core.Logic.{◌≢◌, ◌⊎◌, inl, inr}
use mathlib.Core.Bool.{cond}
use mathlib.Core.List.{List, ◌∷◌}
use lib.ListN.{length, set, length-set, replicate}
use lib.Seq.{ext_get_or, get_or-set_same, get_or-set_other}
use lib.Dec.{leb}
use borrow.Author.Tests.{le-leb, lt-leb}
use Rattle.model.specs.Sizes.{tasks, mutexes}
use Rattle.model.specs.Lists.{◌!◌, within}
use Rattle.model.specs.Kernel.{Kernel, facts, stands_in, with_tasks, with_current, with_currents}
use Rattle.model.proofs.ListLaws.{mapped_at, map-agree}
use Rattle.model.proofs.NumberLaws.{Names, NamesNone}
use Rattle.priority.specs.Own.{own_of, base_of, ceiling_holder}
use Rattle.priority.specs.Afresh.{by_task, at_bases, at_own, holder_at_own}
use Rattle.priority.proofs.OwnLaws.{inside, own_asked, asked-holder, asked-other, asked-all}
use Rattle.priority.proofs.StepLaws.{task-or-none, within-task, within_none}

-- ---- lists by number

pub by_task-long : (f : ℕ → ℕ) → length (by_task f) ≡ suc tasks
unfolding by_task
by_task-long f = refl

pub by_task-none : (f : ℕ → ℕ) → by_task f ! 0 ≡ 0
unfolding by_task
by_task-none f = refl

pub by_task-at : (f : ℕ → ℕ) (t : ℕ) → 1 ≤ t → t ≤ tasks → by_task f ! t ≡ f t
unfolding by_task
by_task-at f zero low high = absurd (omega arith)
by_task-at f (suc t) low high = mapped_at f 1 tasks t 0 (omega arith) ∙ ap f (one-add t)

by_task-agree : (f g : ℕ → ℕ) → ((t : ℕ) → 1 ≤ t → t ≤ tasks → f t ≡ g t) → by_task f ≡ by_task g
unfolding by_task
by_task-agree f g same = ap (λ (l : List ℕ). 0 ∷ l) (map-agree f g 1 tasks (λ t low high. same t low (omega arith)))

-- a list is that, if its entries are
pub by_task-is : (f : ℕ → ℕ) (cs : List ℕ) → length cs ≡ suc tasks → cs ! 0 ≡ 0 → ((t : ℕ) → 1 ≤ t → t ≤ tasks → cs ! t ≡ f t) → cs ≡ by_task f
by_task-is f cs long none each = ext_get_or 0 cs (by_task f) (long ∙ sym (by_task-long f)) (λ t h. go t (omega arith))
  where
    go : (t : ℕ) → t ≤ tasks → cs ! t ≡ by_task f ! t
    go zero h = none ∙ sym (by_task-none f)
    go (suc t) h = each (suc t) (omega arith) h ∙ sym (by_task-at f (suc t) (omega arith) h)

-- one entry exchanged
by_task-set : (f g : ℕ → ℕ) (v x : ℕ) → 1 ≤ v → v ≤ tasks → g v ≡ x → ((t : ℕ) → t ≢ v → g t ≡ f t) → set (by_task f) v x ≡ by_task g
by_task-set f g v x low high e same =
    by_task-is g (set (by_task f) v x) (length-set (by_task f) v x ∙ by_task-long f) (get_or-set_other (by_task f) v 0 x 0 (λ o. omega arith) ∙ by_task-none f) (λ t a b. go t a b (ℕ_discrete t v))
  where
    go : (t : ℕ) → 1 ≤ t → t ≤ tasks → Dec (t ≡ v) → set (by_task f) v x ! t ≡ g t
    go t a b (yes q) = rw q (get_or-set_same (by_task f) v x 0 (omega (arith, by_task-long f)) ∙ sym e)
    go t a b (no q) = get_or-set_other (by_task f) v t x 0 q ∙ by_task-at f t a b ∙ sym (same t q)

-- ---- every current priority becomes the base priority

abbrev pub cleared : Kernel → Kernel
cleared k = with_currents k (0 ∷ replicate tasks 0)

-- the first n tasks' have
unfoldable pub bases_so_far : Kernel → ℕ → Kernel
bases_so_far k n = with_currents k (by_task (λ t. cond (leb t n) (base_of k t) 0))

pub bases-start : (k : Kernel) → cleared k ≡ bases_so_far (cleared k) 0
unfolding by_task bases_so_far with_currents with_tasks
bases-start k = refl

pub bases-step : (k : Kernel) (n : ℕ) → n < tasks → with_current (bases_so_far k n) (suc n) (base_of (bases_so_far k n) (suc n)) ≡ bases_so_far k (suc n)
unfolding bases_so_far with_current with_currents with_tasks facts stands_in
bases-step k n h =
    ap (with_currents k)
    (by_task-set (λ t. cond (leb t n) (base_of k t) 0) (λ t. cond (leb t (suc n)) (base_of k t) 0) (suc n) (base_of k (suc n)) (omega arith) h
    (rw (le-leb (suc n) (suc n) (omega arith))) (λ t d. go t d (dec_le t n)))
  where
    go : (t : ℕ) → t ≢ suc n → Dec (t ≤ n) → cond (leb t (suc n)) (base_of k t) 0 ≡ cond (leb t n) (base_of k t) 0
    go t d (yes l) = rw (le-leb t n l, le-leb t (suc n) (omega arith))
    go t d (no l) = rw (lt-leb t n (omega arith), lt-leb t (suc n) (omega arith))

pub bases-all : (k : Kernel) → bases_so_far (cleared k) tasks ≡ at_bases k
unfolding bases_so_far at_bases with_currents with_tasks facts stands_in
bases-all k = ap (with_currents k) (by_task-agree (λ t. cond (leb t tasks) (base_of k t) 0) (base_of k) (λ t low high. rw (le-leb t tasks high)))

-- ---- then that of each task that holds a ceiling becomes its own

-- those of the holders of the first n mutexes have
unfoldable pub holders_so_far : Kernel → ℕ → Kernel
holders_so_far k n = with_currents k (by_task (own_asked k n))

pub holders-start : (k : Kernel) → at_bases k ≡ holders_so_far (at_bases k) 0
unfolding at_bases holders_so_far own_asked with_currents with_tasks facts stands_in
holders-start k = refl

pub holders-step : (k : Kernel) (n : ℕ) → holder_at_own (holders_so_far k n) (suc n) ≡ holders_so_far k (suc n)
unfolding holder_at_own holders_so_far ceiling_holder with_current with_currents with_tasks facts stands_in
holders-step k n = go (task-or-none h)
  where
    h : ℕ
    h = ceiling_holder k (suc n)

    go : Names tasks h h ⊎ NamesNone tasks h
        → cond (within 1 tasks h) (with_currents k (set (by_task (own_asked k n)) h (own_of k h))) (with_currents k (by_task (own_asked k n))) ≡ with_currents k (by_task (own_asked k (suc n)))
    go (inl task) =
        rw (within-task h task.1 task.2)
        (ap (with_currents k)
        (by_task-set (own_asked k n) (own_asked k (suc n)) h (own_of k h) task.1 task.2 (asked-holder k h n refl) (λ t d. asked-other k t n (λ e. d (sym e)))))
    go (inr none) =
        rw (within_none h none)
        (ap (with_currents k)
        (by_task-agree (own_asked k n) (own_asked k (suc n)) (λ t low high. sym (asked-other k t n (λ e. inside (rw e low) (rw e high) none)))))

-- the holder of one mutex is a task, or nobody
module _ (k : Kernel) (m : ℕ) where
  pub holder-none : NamesNone tasks (ceiling_holder k m) → k ≡ holder_at_own k m
  unfolding holder_at_own
  holder-none none = rw (within_none _ none)

  pub holder-task : {v : ℕ} → Names tasks (ceiling_holder k m) v → with_current k v (own_of k v) ≡ holder_at_own k m
  unfolding holder_at_own
  holder-task names = rw (names.0, within-task _ names.1 names.2)

pub holders-all : (k : Kernel) → holders_so_far k mutexes ≡ at_own k
unfolding holders_so_far at_own
holders-all k = ap (with_currents k) (by_task-agree (own_asked k mutexes) (own_of k) (λ t low high. asked-all k t low))

pub own-again : (k : Kernel) → at_own (at_bases k) ≡ at_own k
unfolding at_bases at_own with_currents with_tasks facts stands_in
own-again k = refl
