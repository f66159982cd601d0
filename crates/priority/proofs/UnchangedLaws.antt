-- Effective priorities where tasks are unchanged, or hold nothing. Assumes nothing.
use native.Mathlib.Nat.{le_antisymm}
use mathlib.Core.Logic.{◌↔◌}
use mathlib.Core.Bool.{and-true, and-false, and-eq-true_iff}
use Rattle.model.proofs.Terms.{ℕ, suc, ◌≤◌, arith, ◌≡◌, ◌∙◌, refl, sym, ap, ap₂, fun_ext, ◌≢◌, Bool, true, false, ◌&&◌, cond, false≢true, Option, none, some, length, eqb, leb, eq-eqb, ne_eqb, eqb-true, leb-false, tasks, mutexes, ◌!◌, up_to, Queue, queue, locking, Facts, inherits, ceilinged, Linked, most_urgent, linked, holder_awaited, own_priority, effective, effectives}
use Rattle.model.specs.Priority.{step, chain}
use Rattle.model.proofs.ListLaws.{bool-ext, select-agree}
use Rattle.priority.specs.Least.{least, least_first, least_above}
use Rattle.priority.specs.Linked.{linked-agrees, goes_on}
use Rattle.priority.specs.Effective.{awaited-ends}
use Rattle.priority.specs.Own.{holds_ceiling}
use Rattle.priority.specs.Afresh.{by_task}
use Rattle.priority.specs.Unchanged.{wait_of, held, Unchanged, SameEffective}
use Rattle.priority.proofs.StartLaws.{by_task-at}

-- ---- own priorities and steps of a chain, by what is held and waited for

-- what a task holds of a mutex: whether it is one of an attribute, and its ceiling
abbrev holds : ℕ → Option (ℕ × ℕ) → Bool
holds a none = false
holds a (some x) = eqb x.0 a

abbrev ceiling_of : Option (ℕ × ℕ) → ℕ
ceiling_of none = 0
ceiling_of (some x) = x.1

-- both of a mutex with attribute n and ceiling c, by whether it is held
holds-is : (b : Bool) (n c a : ℕ)
    → (b && eqb n a ≡ holds a (cond b (some (n, c)) none)) × (b && eqb n a ≡ true → c ≡ ceiling_of (cond b (some (n, c)) none))
holds-is true n c a = (refl, λ e. refl)
holds-is false n c a = (refl, λ e. absurd (false≢true e))

abbrev own_from : ℕ → (ℕ → Option (ℕ × ℕ)) → ℕ
own_from base has = least base (λ m. ceiling_of (has m)) (λ m. holds ceilinged (has m)) mutexes

own_is : (f : Facts) (t : ℕ) → own_priority f t ≡ own_from (f.base ! t) (held f t)
unfolding own_priority held
own_is f t =
    ap (most_urgent (f.base ! t))
    (select-agree _ _ _ _
    (λ m. (holds-is (eqb (f.holder ! m) t) (f.mutex_attribute ! m) (f.ceiling ! m) ceilinged).0)
    (λ m. (holds-is (eqb (f.holder ! m) t) (f.mutex_attribute ! m) (f.ceiling ! m) ceilinged).1)
    (up_to mutexes))

-- whether a wait is for an inheritance mutex that is held
abbrev awaits : Option Queue → (ℕ → Option (ℕ × ℕ)) → Bool
awaits none has = false
awaits (some q) has = eqb q.place locking && holds inherits (has q.object)

step_is : (f : Facts) (x y : ℕ) → y ≢ 0 → eqb (holder_awaited f x) y ≡ awaits (wait_of f x) (held f y)
unfolding holder_awaited wait_of held
step_is f x y n = go (leb locking (f.place ! x)) refl
  where
    m : ℕ
    m = f.object ! x

    nobody : eqb 0 y ≡ false
    nobody = ne_eqb 0 y (λ e. n (sym e))

    found : (h : ℕ) (b c : Bool) → eqb (cond (b && c) h 0) y ≡ b && (eqb h y && c)
    found h true true = sym (and-true (eqb h y))
    found h true false = nobody ∙ sym (and-false (eqb h y))
    found h false c = nobody

    go : (b : Bool) → leb locking (f.place ! x) ≡ b → eqb (holder_awaited f x) y ≡ awaits (cond b (some (queue (f.place ! x) m)) none) (held f y)
    go true e =
        found (f.holder ! m) (eqb (f.place ! x) locking) _
        ∙ ap (λ (c : Bool). eqb (f.place ! x) locking && c) (holds-is (eqb (f.holder ! m) y) (f.mutex_attribute ! m) (f.ceiling ! m) inherits).0
    go false e = rw (ne_eqb (f.place ! x) locking (λ o. omega (arith, leb-false locking (f.place ! x) e))) nobody

-- ---- unchanged tasks

module _ (f g : Facts) where
  same-own : (t : ℕ) → Unchanged f g t → own_priority f t ≡ own_priority g t
  same-own t u = own_is f t ∙ ap₂ own_from u.base (fun_ext u.mutexes) ∙ sym (own_is g t)

  same_step : {x y : ℕ} → Unchanged f g x → Unchanged f g y → y ≢ 0 → holder_awaited f x ≡ y → holder_awaited g x ≡ y
  same_step {x} {y} u w n e =
      eqb-true (holder_awaited g x) y
      (step_is g x y n ∙ sym (ap₂ awaits u.wait (fun_ext w.mutexes)) ∙ sym (step_is f x y n) ∙ eq-eqb (holder_awaited f x) y e)

  same-chain : {x t : ℕ} → Unchanged f g t → ((y : ℕ) → Linked (holder_awaited f) y t → Unchanged f g y)
      → Linked (holder_awaited f) x t → Linked (holder_awaited g) x t
  same-chain {x} u before (step e n) = step (same_step (before x (step e n)) u n e) n
  same-chain {x} u before (chain {y = y} e n l) = chain (same_step (before x (chain e n l)) (before y l) n e) n (same-chain u before l)

pub same-effective : SameEffective
unfolding effective
same-effective f g lf lg t high u before after =
    rw (same-own f g t u)
    (ap (most_urgent (own_priority g t))
    (select-agree _ _ (own_priority f) (own_priority g)
    (λ x. bool-ext (linked (holder_awaited f) x t) (linked (holder_awaited g) x t)
    (λ e. (agree g lg x).0 (same-chain f g u before ((agree f lf x).1 e)))
    (λ e. (agree f lf x).0 (same-chain g f (back t u) (λ y l. back y (after y l)) ((agree g lg x).1 e))))
    (λ x e. same-own f g x (before x ((agree f lf x).1 e)))
    (up_to tasks)))
  where
    agree : (a : Facts) → length a.place ≡ suc tasks → (x : ℕ) → Linked (holder_awaited a) x t ↔ (linked (holder_awaited a) x t ≡ true)
    agree a l x = linked-agrees (holder_awaited a) (awaited-ends a l) x t high

    back : (x : ℕ) → Unchanged f g x → Unchanged g f x
    back x c = record { base = sym c.base; wait = sym c.wait; mutexes = λ m. sym (c.mutexes m) }

pub same-wait : (f g : Facts) (t : ℕ) → f.place ! t ≡ g.place ! t → f.object ! t ≡ g.object ! t → wait_of f t ≡ wait_of g t
unfolding wait_of
same-wait f g t place object = rw (place, object)

-- A task that waits for no mutex is linked to none: a change of it alone is no change of the others' priorities.
pub effectives-except : (f g : Facts) → length f.place ≡ suc tasks → length g.place ≡ suc tasks
    → (t : ℕ) → f.place ! t ≢ locking → g.place ! t ≢ locking → ((u : ℕ) → u ≢ t → Unchanged f g u)
    → (u : ℕ) → u ≤ tasks → u ≢ t → effective f u ≡ effective g u
effectives-except f g lf lg t nf ng same u high d =
    same-effective f g lf lg u high (same u d) (λ x l. same x (awaits-none f nf l)) (λ x l. same x (awaits-none g ng l))
  where
    awaits-none : (a : Facts) → a.place ! t ≢ locking → {x : ℕ} → Linked (holder_awaited a) x u → x ≢ t
    awaits-none a n l e = goes_on (holder_awaited a) l (unfold holder_awaited in rw (e, ne_eqb (a.place ! t) locking n))

-- ---- a task that holds nothing has its base priority

least-none : (a : ℕ) (f : ℕ → ℕ) (p : ℕ → Bool) (n : ℕ) → ((x : ℕ) → p x ≢ true) → least a f p n ≡ a
least-none a f p n h = le_antisymm (least_first f p a n) (least_above f p a n a (omega arith) (λ x low high e. absurd (h x e)))

module _ (f : Facts) (long : length f.place ≡ suc tasks) (t : ℕ) (high : t ≤ tasks) (nothing : (m : ℕ) → f.holder ! m ≢ t) where
  none-linked : {x : ℕ} → Linked (holder_awaited f) x t → ⊥
  none-linked {x} (step e n) = go (eqb (f.place ! x) locking && eqb (f.mutex_attribute ! (f.object ! x)) inherits) (unfold holder_awaited in e)
    where
      go : (b : Bool) → cond b (f.holder ! (f.object ! x)) 0 ≡ t → ⊥
      go true q = nothing (f.object ! x) q
      go false q = n (sym q)
  none-linked (chain e n l) = none-linked l

  pub effective-alone : effective f t ≡ f.base ! t
  unfolding effective own_priority
  effective-alone =
      least-none (own_priority f t) (own_priority f) _ tasks (λ x e. none-linked ((linked-agrees (holder_awaited f) (awaited-ends f long) x t high).1 e))
      ∙ least-none (f.base ! t) (λ m. f.ceiling ! m) (holds_ceiling f t) mutexes
      (λ m e. nothing m (eqb-true _ t ((and-eq-true_iff (eqb (f.holder ! m) t) _).0 e).0))

pub at-effective : (f : Facts) (i : ℕ) → 1 ≤ i → i ≤ tasks → effectives f ! i ≡ effective f i
unfolding effectives by_task
at-effective f i low high = by_task-at (effective f) i low high
