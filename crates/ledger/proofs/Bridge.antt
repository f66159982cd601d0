-- The ledger of a state gives that state's facts, and so its priorities, its queues and the task that runs.
use mathlib.Core.Bool.{and-eq-true_iff}
use mathlib.Core.Logic.{⊎_elim}
use Rattle.model.proofs.Terms.{ℕ, zero, suc, ◌≤◌, ◌<◌, ℕ_discrete, arith, ◌≡◌, ◌∙◌, refl, sym, ap, ap₂, Bool, true, Option, none, some, List, [], ◌∷◌, map, length, eqb, ne_eqb, eqb-true, tasks, mutexes, priorities, ◌!◌, count_from, head_of, Queue, queue, ready_queue, absent, ready, locking, Facts, Linked, linked, holder_awaited, own_priority, effective, effectives, order, front, Kernel, numbered, facts, World, queue_order, running, Each, ByNumber, From, Priorities, MutexEntry, entries, standing, ledger_facts, ledger_priorities, ledger_order, ledger_runs}
use Rattle.model.proofs.NumberLaws.{numbered-at, numbered-long}
use Rattle.priority.specs.Linked.{goes_on, linked-agrees}
use Rattle.priority.specs.Least.{least, least_first, least_above}
use Rattle.priority.specs.Effective.{awaited-ends}
use Rattle.priority.specs.Own.{holds_ceiling}
use Rattle.priority.proofs.UnchangedLaws.{at-effective}
use Rattle.queue.proofs.NextToRun.{next-is-front}
use Rattle.queue.proofs.Members.{standing-in}
use Rattle.invariant.specs.Rows.{task_rows, mutex_rows, buffer_rows, pool_rows}
use Rattle.invariant.specs.Invariant.{Invariant, Steady}
use Rattle.ledger.specs.Abstraction.{table, task_entry, mutex_entry, buffer_entry, pool_entry, ledger_of}
use Rattle.ledger.specs.Statements.{Known}
use Rattle.ledger.proofs.Tables.{table_is}
use Rattle.ledger.proofs.Lines.{lines_are, stands_at}

-- ---- facts

-- a list by number is a table of its entries
numbered-table : {last : ℕ} {xs : List ℕ} → ByNumber last xs → (f : ℕ → ℕ) → f 0 ≡ 0 → Each last (λ i. f i ≡ xs ! i) → table (suc last) f ≡ numbered xs
numbered-table {last} {xs} l f z h = sym (table_is (suc last) f 0 (numbered xs) (numbered-long last xs l.long) go)
  where
    go : (i : ℕ) → i < suc last → numbered xs ! i ≡ f i
    go zero j = sym z
    go (suc i) j = numbered-at xs (suc i) (omega arith) ∙ sym (h (suc i) (omega arith) (omega arith))

-- a field of entries, with 0 where there is none
entries-are : {A : Type 0} (f : A → ℕ) (e : ℕ → Option A) {last : ℕ} {xs : List ℕ} → ByNumber last xs
    → head_of (entries f (e 0 ∷ [])) ≡ 0 → Each last (λ i. head_of (entries f (e i ∷ [])) ≡ xs ! i) → entries f (table (suc last) e) ≡ numbered xs
unfolding table
entries-are {A} f e {last} l z h = go (count_from 0 (suc last)) ∙ numbered-table l _ z h
  where
    put : (o : Option A) (os : List (Option A)) → entries f (o ∷ os) ≡ head_of (entries f (o ∷ [])) ∷ entries f os
    put none os = refl
    put (some a) os = refl

    go : (is : List ℕ) → entries f (map e is) ≡ map (λ i. head_of (entries f (e i ∷ []))) is
    go [] = refl
    go (i ∷ is) = put (e i) (map e is) ∙ ap (λ (ns : List ℕ). head_of (entries f (e i ∷ [])) ∷ ns) (go is)

pub facts-are : {exiting : ℕ} {k : Kernel} {store outbox : List ℕ} → Invariant exiting k store outbox → ledger_facts (ledger_of k) ≡ facts k
unfolding ledger_facts facts ledger_of table standing
facts-are {k = k} v =
    let ts = v.of_tasks.lists in
    let ms = v.of_mutexes.lists in
    λ i. record {
      base =
          entries-are (λ e. e.base) (λ t. task_entry (task_rows k.tasks t)) ts.base (rw ts.place.none_zero)
          (λ t a b. ⊎_elim (λ r. rw (r.0, r.2)) (λ r. rw (ne_eqb (k.tasks.place ! t) absent (λ z. omega (arith, r.0.0)))) (v.of_tasks.each t a b).range) i;
      place = numbered-table ts.place (λ t. (standing (ledger_of k) t).place) (λ j. (none-stands j).place) (λ t a b j. (stands_at v t a b j).place) i;
      object = numbered-table ts.object (λ t. (standing (ledger_of k) t).object) (λ j. (none-stands j).object) (λ t a b j. (stands_at v t a b j).object) i;
      mutex_attribute = mutex (λ e. e.attribute) ms.attribute (λ m a b. ⊎_elim (λ r. rw (r.0, r.1)) (λ r. rw r.0) (v.of_mutexes.shape m a b)) i;
      ceiling = mutex (λ e. e.ceiling) ms.ceiling (λ m a b. ⊎_elim (λ r. rw (r.0, r.2)) (λ r. rw r.0) (v.of_mutexes.shape m a b)) i;
      holder = mutex (λ e. e.holder) ms.holder (λ m a b. ⊎_elim (λ r. rw (r.0, r.3)) (λ r. rw r.0) (v.of_mutexes.shape m a b)) i;
      buffer_attribute =
          entries-are (λ a. a) (λ b. buffer_entry (buffer_rows k.buffers b)) v.of_buffers.lists.attribute (rw v.of_buffers.lists.exists.none_zero)
          (λ b low high. ⊎_elim (λ r. rw (r.0, r.1)) (λ r. rw r.0) (v.of_buffers.shape b low high)) i;
      pool_attribute =
          entries-are (λ a. a) (λ p. pool_entry (pool_rows k.pools p)) v.of_pools.lists.attribute (rw v.of_pools.lists.exists.none_zero)
          (λ p low high. ⊎_elim (λ r. rw (r.0, r.1)) (λ r. rw r.0) (v.of_pools.shape p low high)) i;
      arrivals = λ q. lines_are v q i;
    }
  where
    none-stands : standing (ledger_of k) 0 ≡ queue absent 0
    none-stands = rw (v.of_tasks.lists.place.none_zero, standing)

    mutex : (g : MutexEntry → ℕ) {xs : List ℕ} → ByNumber mutexes xs → Each mutexes (λ m. head_of (entries g (mutex_entry (mutex_rows k.mutexes m) ∷ [])) ≡ xs ! m)
        → entries g (ledger_of k).mutexes ≡ numbered xs
    mutex g l = entries-are g (λ m. mutex_entry (mutex_rows k.mutexes m)) l (rw v.of_mutexes.lists.exists.none_zero)

-- ---- current priorities are in range, so that the first of the ready queue is who runs

-- the most urgent of priorities in range is in range
least-range : (a : ℕ) (g : ℕ → ℕ) (p : ℕ → Bool) (n : ℕ) → From 1 priorities a → Each n (λ x. p x ≡ true → 1 ≤ g x) → From 1 priorities (least a g p n)
least-range a g p n r h = (least_above g p a n 1 r.0 h, omega (arith, least_first g p a n))

module _ {w : World} (s : Steady 0 w) where
  abbrev k : Kernel
  k = w.kernel

  abbrev f : Facts
  f = facts k

  own_range : (t : ℕ) → 1 ≤ t → t ≤ tasks → ready ≤ k.tasks.place ! t → From 1 priorities (own_priority f t)
  unfolding own_priority facts
  own_range t low high h =
      least-range (f.base ! t) (λ m. f.ceiling ! m) (holds_ceiling f t) mutexes
      (rw (numbered-at k.tasks.base t low) (⊎_elim (λ r. absurd (omega (arith, r.0))) (λ r. r.2) (s.invariant.of_tasks.each t low high).range))
      (λ m a b e.
      let is = sym (numbered-at k.mutexes.attribute m a) ∙ eqb-true _ _ ((and-eq-true_iff (eqb (f.holder ! m) t) _).0 e).1 in
      rw (numbered-at k.mutexes.ceiling m a)
      (⊎_elim (λ r. absurd (omega (arith, r.1))) (λ r. ⊎_elim (λ c. c.1.0) (λ c. absurd (c.0 is)) r.2) (s.invariant.of_mutexes.shape m a b)))

  effective-range : (t : ℕ) → 1 ≤ t → t ≤ tasks → ready ≤ k.tasks.place ! t → From 1 priorities (effective f t)
  unfolding effective facts
  effective-range t low high h =
      least-range (own_priority f t) (own_priority f) (λ x. linked (holder_awaited f) x t) tasks (own_range t low high h)
      (λ x a b e. (own_range x a b (waits x a ((linked-agrees (holder_awaited f) (awaited-ends f long) x t high).1 e))).0)
    where
      long : length f.place ≡ suc tasks
      long = numbered-long tasks k.tasks.place s.invariant.of_tasks.lists.place.long

      -- who is linked to another waits for a mutex
      waits : (x : ℕ) → 1 ≤ x → Linked (holder_awaited f) x t → ready ≤ k.tasks.place ! x
      waits x a l = elim (ℕ_discrete (f.place ! x) locking) [
        | yes e ↦ omega (arith, numbered-at k.tasks.place x a)
        | no d ↦ absurd (goes_on (holder_awaited f) l (unfold holder_awaited in rw (ne_eqb (f.place ! x) locking d)))
      ]

  pub known : Known k
  unfolding ledger_priorities ledger_order ledger_runs Priorities queue_order running front
  known =
      let same = facts-are s.invariant in
      let now = ap effectives same ∙ sym s.priorities in
      let orders : (q : Queue) → ledger_order (ledger_of k) q ≡ queue_order k q = λ q. ap₂ (λ (a : Facts) (c : List ℕ). order a c q) same now in
      record {
        same_facts = same;
        priorities = now;
        orders = orders;
        runs =
            ap head_of (orders ready_queue)
            ∙ sym (next-is-front f k.tasks.current (λ u m z. omega (arith, (standing-in k ready_queue u m).low)) (λ u m.
            let g = standing-in k ready_queue u m in
            rw (s.priorities, at-effective f u g.low g.high) (effective-range u g.low g.high (omega arith))));
      }
