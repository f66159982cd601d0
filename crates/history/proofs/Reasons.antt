-- Two ledgers, one before and one after: where a priority differs there is a reason.
use native.Mathlib.Decide.{map_dec}
use mathlib.Core.Bool.{Bool-discrete, and-eq-true_iff}
use mathlib.Core.HLevel.{×_discrete}
use mathlib.Core.List.{List-discrete}
use mathlib.Core.Option.{discrete}
use Rattle.model.proofs.Terms.{ℕ, zero, suc, zero-add, ◌≤◌, ◌<◌, ℕ_discrete, arith, ◌≡◌, ◌∙◌, refl, sym, ap, ◌≢◌, ◌⊎◌, inl, inr, true, Option, none, some, Option·map, List, [], ◌∷◌, map, get_or, eqb, eq-eqb, ne_eqb, eqb-true, tasks, mutexes, ◌!◌, up_to, member, Queue, queue, Facts, facts, linked, holder_awaited, effectives, Lent, From, Valid, MutexEntry, Ledger, entries, standing, ledger_facts, ledger_priorities}
use Rattle.model.proofs.ListLaws.{select-member, member-count_from, mapped_at}
use Rattle.model.proofs.Folds.{search-below}
use Rattle.model.proofs.NumberLaws.{NamesNone, names-one, numbered-none}
use Rattle.priority.specs.Linked.{linked-agrees, goes_on}
use Rattle.priority.specs.Effective.{awaited-ends}
use Rattle.priority.specs.Unchanged.{wait_of as wait_in, held, Unchanged}
use Rattle.priority.proofs.UnchangedLaws.{same-effective, at-effective}
use Rattle.history.specs.Reasons.{base_of, mutexes_held, wait_of, LinkedIn, Reason}
use Rattle.history.proofs.Lasting.{shape, shapes, Lasting}

queues : (q r : Queue) → Dec (q ≡ r)
queues q r =
    map_dec (λ e i. queue (e i).0 (e i).1) (λ e i. ((e i).place, (e i).object)) (×_discrete ℕ_discrete ℕ_discrete (q.place, q.object) (r.place, r.object))

-- ---- what the facts of a ledger are

-- a mutex that is held is there
shaped : (ms : List (Option MutexEntry)) (m : ℕ) → entries (λ e. e.holder) ms ! m ≢ 0
    → get_or (map (Option·map shape) ms) m none ≡ some (entries (λ e. e.attribute) ms ! m, entries (λ e. e.ceiling) ms ! m)
shaped [] m h = absurd (h refl)
shaped (none ∷ ms) zero h = absurd (h refl)
shaped (some e ∷ ms) zero h = refl
shaped (none ∷ ms) (suc m) h = shaped ms m h
shaped (some e ∷ ms) (suc m) h = shaped ms m h

-- they are those of a valid state
abbrev pub OfState : Ledger → Type 0
OfState l = (x : Lent) × Valid x × (ledger_facts l ≡ facts x.kernel)

module _ (l : Ledger) where
  wait-is : (t : ℕ) → t ≤ tasks → wait_in (ledger_facts l) t ≡ wait_of l t
  unfolding wait_in wait_of ledger_facts
  wait-is t high =
      let h : t < suc tasks = omega arith in
      rw (mapped_at (λ u. (standing l u).place) 0 (suc tasks) t 0 h, mapped_at (λ u. (standing l u).object) 0 (suc tasks) t 0 h, zero-add)

  none-there : (t : ℕ) → NamesNone tasks t → ledger_priorities l ! t ≡ 0
  unfolding ledger_priorities effectives
  none-there t = numbered-none tasks (ledger_priorities l) t refl

  module _ (s : OfState l) where
    linked-inside : (x t : ℕ) → LinkedIn l x t → From 1 tasks x
    unfolding holder_awaited facts
    linked-inside x t c =
        names-one tasks x
        (λ n. goes_on (holder_awaited (ledger_facts l)) c (rw (s.2, numbered-none tasks s.0.kernel.tasks.place x s.1.is_task_lists.place.long n)))

    -- a mutex that a task holds is the task's in another ledger too, if there it holds the same ones
    still-held : (j : Ledger) (x m : ℕ) → 1 ≤ x → mutexes_held l x ≡ mutexes_held j x → (ledger_facts l).holder ! m ≡ x → (ledger_facts j).holder ! m ≡ x
    unfolding mutexes_held facts
    still-held j x m low e q =
        let free = numbered-none mutexes s.0.kernel.mutexes.holder m s.1.is_mutex_lists.holder.long in
        let r = names-one mutexes m (λ n. omega (arith, ap (λ f. f.holder ! m) s.2 ∙ free n)) in
        let both = (and-eq-true_iff _ _).1 (eq-eqb _ x q, member-count_from 1 mutexes m r.0 (omega (arith, r.1))) in
        let here = select-member (λ n. eqb ((ledger_facts l).holder ! n) x) m (up_to mutexes) in
        let there = select-member (λ n. eqb ((ledger_facts j).holder ! n) x) m (up_to mutexes) in
        eqb-true _ x ((and-eq-true_iff _ _).0 (sym there ∙ ap (member m) (sym e) ∙ here ∙ both)).0

-- ---- the reason

module _ (l j : Ledger) (before : OfState l) (after : OfState j) (lasting : Lasting (shapes l) (shapes j))
    (t : ℕ) (differs : ledger_priorities l ! t ≢ ledger_priorities j ! t) where
  abbrev f : Facts
  f = ledger_facts l

  abbrev g : Facts
  g = ledger_facts j

  task : From 1 tasks t
  task = names-one tasks t (λ n. differs (none-there l t n ∙ sym (none-there j t n)))

  same-held : (x : ℕ) → 1 ≤ x → mutexes_held l x ≡ mutexes_held j x → (m : ℕ) → held f x m ≡ held g x m
  unfolding held ledger_facts Lasting
  same-held x low e m =
      elim (ℕ_discrete (f.holder ! m) x) [
        | no d ↦ rw (ne_eqb (f.holder ! m) x d, ne_eqb (g.holder ! m) x (λ q. d (still-held j after l x m low (sym e) q)))
        | yes q ↦
            let p = still-held l before j x m low e q in
            rw (eq-eqb (f.holder ! m) x q, eq-eqb (g.holder ! m) x p)
            (lasting m _ _ (shaped l.mutexes m (λ z. omega arith)) (shaped j.mutexes m (λ z. omega arith)))
      ]

  abbrev Related : ℕ → Type 0
  Related x = (x ≡ t) ⊎ (LinkedIn l x t ⊎ LinkedIn j x t)

  -- something of such a task changed, or nothing
  decided : (x : ℕ) → Related x → From 1 tasks x → Reason l j t ⊎ Unchanged f g x
  unfolding base_of
  decided x c i =
      go (ℕ_discrete (f.base ! x) (g.base ! x)) (List-discrete ℕ_discrete (mutexes_held l x) (mutexes_held j x)) (discrete queues (wait_of l x) (wait_of j x))
    where
      go : Dec (f.base ! x ≡ g.base ! x) → Dec (mutexes_held l x ≡ mutexes_held j x) → Dec (wait_of l x ≡ wait_of j x) → Reason l j t ⊎ Unchanged f g x
      go (no d) m w = inl (record { task = x; linked = c; changed = inl d })
      go (yes b) (no d) w = inl (record { task = x; linked = c; changed = inr (inl d) })
      go (yes b) (yes m) (no d) = inl (record { task = x; linked = c; changed = inr (inr d) })
      go (yes b) (yes m) (yes w) = inr (record { base = b; wait = wait-is l x i.1 ∙ w ∙ sym (wait-is j x i.1); mutexes = same-held x i.0 m })

  -- a task that is linked to it in a ledger, and of which something changed, is a reason
  among : (k : Ledger) → OfState k → ((x : ℕ) → LinkedIn k x t → Related x) → (((x : ℕ) → LinkedIn k x t → Unchanged f g x) → Reason l j t) → Reason l j t
  unfolding ledger_facts
  among k s relates else =
      let next = holder_awaited (ledger_facts k) in
      search-below (λ x. LinkedIn k x t → Unchanged f g x)
      (λ x. let agree = linked-agrees next (awaited-ends (ledger_facts k) refl) x t task.1 in
      elim (map_dec agree.1 agree.0 (Bool-discrete (linked next x t) true)) [
        | no n ↦ inr (λ c. absurd (n c))
        | yes c ↦ elim (decided x (relates x c) (linked-inside k s x t c)) [ inl r ↦ inl r | inr u ↦ inr (λ c. u) ]
      ])
      (suc tasks) (λ all. else (λ x c. all x (omega (arith, linked-inside k s x t c)) c))

  pub reason : Reason l j t
  unfolding ledger_priorities ledger_facts
  reason =
      elim (decided t (inl refl) task) [
        | inl r ↦ r
        | inr u ↦
            among l before (λ x c. inr (inl c)) (λ b. among j after (λ x c. inr (inr c)) (λ a. absurd (differs
            (at-effective f t task.0 task.1 ∙ same-effective f g refl refl t task.1 u b a ∙ sym (at-effective g t task.0 task.1)))))
      ]
