-- Where current priorities are the effective ones already and the bits go with them, they are so still once a mutex or a wait has changed that does not count for them:
-- recompute is needless. Laws about the definitions, then of words as the code has them. Assumes nothing.
use mathlib.Core.Bool.{and-false}
use Rattle.model.proofs.Terms.{ℕ, zero, suc, ◌≤◌, ◌<◌, ℕ_discrete, arith, ◌≡◌, ◌∙◌, sym, ap, ap₂, refl, ◌≢◌, ◌&&◌, List, [], ◌∷◌, length, set, eqb, ne_eqb, tasks, mutexes, ◌!◌, up_to, queue, locking, inherits, ceilinged, most_urgent, holder_awaited, own_priority, Kernel, numbered, with_tasks, with_arrivals, with_mutexes, with_place, with_object, with_argument, with_left, with_holder, with_currents, stands_in, facts, ready_at, ready_bitmap, recompute, arrive, Each, Priorities, Bitmap, sizes, fields, kernel, word_count}
use Rattle.model.specs.Field as field
use Rattle.model.proofs.NumberLaws.{names-one, numbered-at, numbered-not, numbered-none, numbered-other, numbered-same}
use Rattle.model.proofs.ByCase.{with_currents_and_bits}
use Rattle.model.proofs.ListLaws.{select-agree}
use Rattle.state.specs.Words.{Represents}
use Rattle.state.proofs.WordLaws.{places-long, sized, size_of}
use Rattle.ready.proofs.ReadyLaws.{arrival-bitmap}
use Rattle.priority.proofs.EffectiveLaws.{effectives-agree, own-agree}

pub needless : (k : Kernel) → Priorities k → Bitmap k → recompute k ≡ k
unfolding Priorities Bitmap recompute with_currents with_tasks facts stands_in
needless k h b = ap₂ (with_currents_and_bits k) (sym h) (ap (λ (c : List ℕ). ready_bitmap (facts k) c ∷ []) (sym h) ∙ sym b)

module _ (k : Kernel) (settled : Priorities k) (right : Bitmap k) (m t : ℕ) where
  abbrev attributes : List ℕ
  attributes = numbered k.mutexes.attribute

  -- another holder, of a mutex without a ceiling that nobody waits for
  module _ (plain : k.mutexes.attribute ! m ≢ ceilinged) (long : length k.tasks.place ≡ suc tasks)
      (unawaited : Each tasks (λ u. k.tasks.place ! u ≡ locking → k.tasks.object ! u ≢ m)) where
    held-own : (u : ℕ) → own_priority (facts k) u ≡ own_priority (facts (with_holder k m t)) u
    unfolding own_priority facts with_holder with_mutexes
    held-own u = ap (most_urgent _) (select-agree _ _ _ _ (λ n. same n (ℕ_discrete n m)) (λ n e. refl) (up_to mutexes))
      where
        holders : List ℕ
        holders = k.mutexes.holder

        same : (n : ℕ) → Dec (n ≡ m)
            → eqb (numbered holders ! n) u && eqb (attributes ! n) ceilinged ≡ eqb (numbered (set holders m t) ! n) u && eqb (attributes ! n) ceilinged
        same n (yes e) = rw (e, ne_eqb (attributes ! m) ceilinged (numbered-not k.mutexes.attribute m 2 plain), and-false, and-false)
        same n (no d) = rw (numbered-other holders m t n d)

    not-waiting : (x : ℕ) → numbered k.tasks.object ! x ≡ m → numbered k.tasks.place ! x ≢ locking
    not-waiting x o p =
        let (low, high) = names-one tasks x (λ n. omega (arith, numbered-none tasks k.tasks.place x long n)) in
        unawaited x low high (sym (numbered-at k.tasks.place x low) ∙ p) (sym (numbered-at k.tasks.object x low) ∙ o)

    held-awaited : (x : ℕ) → Dec (numbered k.tasks.object ! x ≡ m) → holder_awaited (facts k) x ≡ holder_awaited (facts (with_holder k m t)) x
    unfolding holder_awaited facts with_holder with_mutexes
    held-awaited x (yes e) = rw (ne_eqb (numbered k.tasks.place ! x) locking (not-waiting x e))
    held-awaited x (no d) = rw (numbered-other k.mutexes.holder m t (numbered k.tasks.object ! x) d)

    pub holder-uncounted : recompute (with_holder k m t) ≡ with_holder k m t
    unfolding Priorities with_holder with_mutexes
    holder-uncounted =
        needless (with_holder k m t)
        (settled ∙ effectives-agree (facts k) (facts (with_holder k m t)) held-own (λ x. held-awaited x (ℕ_discrete _ m)))
        (unfold Bitmap ready_bitmap ready_at facts in right)

  -- a wait for a mutex that does not inherit begins
  module _ (argument left : ℕ) (plain : k.mutexes.attribute ! m ≢ inherits) (inside : t ≢ 0 → t < length k.tasks.object)
      (was : t ≢ 0 → k.tasks.place ! t ≢ locking) where
    abbrev waiting : Kernel
    waiting = with_left (with_argument (arrive k t (queue locking m)) t argument) t left

    wait-awaited : (x : ℕ) → Dec (x ≡ t) → holder_awaited (facts k) x ≡ holder_awaited (facts waiting) x
    unfolding holder_awaited facts arrive with_place with_object with_argument with_left with_arrivals with_tasks
    wait-awaited zero d = refl
    wait-awaited (suc x) (yes e) =
        let n : t ≢ 0 = λ z. omega arith in
        rw (
          e,
          numbered-at k.tasks.place t (omega arith),
          ne_eqb (k.tasks.place ! t) locking (was n),
          numbered-same k.tasks.object t m (omega arith) (inside n),
          ne_eqb (attributes ! m) inherits (numbered-not k.mutexes.attribute m 1 plain),
          and-false,
        )
    wait-awaited (suc x) (no d) = rw (numbered-other k.tasks.place t locking (suc x) d, numbered-other k.tasks.object t m (suc x) d)

    pub wait-uncounted : recompute waiting ≡ waiting
    unfolding Priorities facts arrive with_place with_object with_argument with_left with_arrivals with_tasks
    wait-uncounted =
        needless waiting
        (settled ∙ effectives-agree (facts k) (facts waiting) (λ u. own-agree _ _ u refl refl refl refl) (λ x. wait-awaited x (ℕ_discrete x t)))
        (unfold Bitmap ready_bitmap ready_at in arrival-bitmap k t (queue locking m) right)

-- ---- of words

module _ (s : List ℕ) (h : length s ≡ word_count) where
  objects-long : length (kernel s).tasks.object ≡ suc tasks
  unfolding fields sizes
  objects-long = size_of (kernel s) (sized s h) field.object

as-recomputed : {j : Kernel} {s : List ℕ} → recompute j ≡ j → Represents s j → Represents s (recompute (kernel s))
as-recomputed e r = record { length = r.length; kernel = rw r.kernel (sym e) }

module _ (s : List ℕ) (h : length s ≡ word_count) (settled : Priorities (kernel s)) (right : Bitmap (kernel s)) (m t : ℕ) {a : ℕ} (a-is : a ≡ (kernel s).mutexes.attribute ! m) where
  pub holder-settled : a ≢ ceilinged → Each tasks (λ u. (kernel s).tasks.place ! u ≡ locking → (kernel s).tasks.object ! u ≢ m)
      → {s1 : List ℕ} → Represents s1 (with_holder (kernel s) m t) → Represents s1 (recompute (kernel s1))
  holder-settled d unawaited r = as-recomputed (holder-uncounted (kernel s) settled right m t (rw a-is at d) (places-long s h) unawaited) r

  pub wait-settled : a ≢ inherits → (t ≢ 0 → (t ≤ tasks) × ((kernel s).tasks.place ! t ≢ locking))
      → (argument left : ℕ) {s1 : List ℕ} → Represents s1 (with_left (with_argument (arrive (kernel s) t (queue locking m)) t argument) t left)
      → Represents s1 (recompute (kernel s1))
  wait-settled d stands argument left r =
      as-recomputed
      (wait-uncounted (kernel s) settled right m t argument left (rw a-is at d) (λ z. omega (arith, objects-long s h, (stands z).0)) (λ z. (stands z).1)) r
