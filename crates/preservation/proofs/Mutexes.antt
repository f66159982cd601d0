-- The calls on mutexes keep what holds between acts.
use mathlib.Core.Bool.{and-eq-true_iff}
use mathlib.Core.Logic.{⊎_elim}
use Rattle.model.proofs.Terms.{ℕ, ℕ_discrete, arith, ◌≡◌, ◌∙◌, refl, sym, ap, ◌≢◌, inl, inr, Bool, true, false, ◌&&◌, cond, ℤ, set-get_or, eqb, eq-eqb, ne_eqb, eqb-true, eqb-false, ltb-false, mutexes, priorities, ◌!◌, up_to, E_DLT, number, queue, locking, Facts, ceilinged, most_urgent, holder_awaited, own_priority, Kernel, Mutexes, numbered, with_mutex_exists, with_mutex_attribute, with_ceiling, with_holder, with_currents, facts, stands_in, World, with_kernel, queue_order, running, recompute, settled, unused, lock_waits, mutex_attributes, nobody_runs, bad_attribute, bad_number, no_such, none_free, no_time, cre_mtx_refusals, loc_mtx_refusals, unl_mtx_refusals, deletion_refusals, refusals, cre_mtx, del_mtx, unl_mtx, perform, fields_of, From, Priorities}
use Rattle.model.specs.declared.call.Call.TheVariants.{CreMtx, DelMtx, LocMtx, UnlMtx}
use Rattle.model.proofs.NumberLaws.{numbered-at, numbered-other}
use Rattle.model.proofs.ListLaws.{select-agree}
use Rattle.model.proofs.RefusalLaws.{none-applies, in-range, allowed, wait-time, unused-free}
use Rattle.model.proofs.ByCase.{lock-waits, lock-free}
use Rattle.queue.proofs.Members.{running-stood}
use Rattle.priority.specs.Least.{least_first}
use Rattle.priority.specs.Own.{holds_ceiling}
use Rattle.priority.proofs.EffectiveLaws.{effectives-agree}
use Rattle.invariant.specs.Rows.{MutexRow, mutex_rows, with_mutex_row}
use Rattle.invariant.specs.Invariant.{MutexShape, Under, Steady}
use Rattle.invariant.proofs.Parts.{mutex-exchanged}
use Rattle.invariant.proofs.Moves.{meets-mutex}
use Rattle.ready.proofs.KeptLaws.{bits-beside, bits-recomputed}
use Rattle.invariant.proofs.Waits.{priorities-recomputed, steady-settled, waits-quiet}
use Rattle.invariant.proofs.Releases.{mutex-there, taken, released}
use Rattle.invariant.proofs.Ends.{struck-out, strike}
use Rattle.preservation.proofs.Keeps.{Keeps}
use Rattle.preservation.proofs.Objects.{nobody-awaits, all-started, nobody-left}

-- ---- priorities where a mutex that nobody holds gets an attribute and a ceiling: nobody's changes

abbrev made : Kernel → ℕ → ℕ → ℕ → Kernel
made k n a c = with_ceiling (with_mutex_attribute (with_mutex_exists k n 1) n a) n c

-- nothing is more urgent than 0, which stands for no task
own-none : (f : Facts) → f.base ! 0 ≡ 0 → own_priority f 0 ≡ 0
unfolding own_priority
own-none f z = let h = least_first (λ m. f.ceiling ! m) (holds_ceiling f 0) (f.base ! 0) mutexes in omega arith

module _ (k : Kernel) (n a c : ℕ) (free : numbered k.mutexes.holder ! n ≡ 0) where
  same-own : (t : ℕ) → Dec (t ≡ 0) → own_priority (facts k) t ≡ own_priority (facts (made k n a c)) t
  unfolding facts with_ceiling with_mutex_attribute with_mutex_exists
  same-own t (yes z) = rw z (own-none (facts k) refl ∙ sym (own-none (facts (made k n a c)) refl))
  same-own t (no d) =
      unfold own_priority in
      ap (most_urgent _)
      (select-agree _ _ _ _ (λ m. tests m _ refl)
      (λ m e. sym (numbered-other k.mutexes.ceiling n c m (other m ((and-eq-true_iff _ _).0 e).0))) (up_to mutexes))
    where
      other : (m : ℕ) → eqb (numbered k.mutexes.holder ! m) t ≡ true → m ≢ n
      other m e q = d (sym (eqb-true _ t e) ∙ ap (λ (x : ℕ). numbered k.mutexes.holder ! x) q ∙ free)

      tests : (m : ℕ) (b : Bool) → eqb (numbered k.mutexes.holder ! m) t ≡ b
          → (b && eqb (numbered k.mutexes.attribute ! m) ceilinged) ≡ (b && eqb (numbered (made k n a c).mutexes.attribute ! m) ceilinged)
      tests m true e = rw (numbered-other k.mutexes.attribute n a m (other m e))
      tests m false e = refl

  same-awaited : (x : ℕ) → Dec (numbered k.tasks.object ! x ≡ n) → holder_awaited (facts k) x ≡ holder_awaited (facts (made k n a c)) x
  unfolding holder_awaited facts with_ceiling with_mutex_attribute with_mutex_exists
  same-awaited x (yes e) =
      let either : (b : Bool) → ◌≡◌ {A = ℕ} (cond b 0 0) 0 = elim [ true ↦ refl | false ↦ refl ] in
      rw (e, free, either, either)
  same-awaited x (no d) = rw (numbered-other k.mutexes.attribute n a (numbered k.tasks.object ! x) d)

  priorities-made : Priorities k → Priorities (made k n a c)
  unfolding Priorities with_ceiling with_mutex_attribute with_mutex_exists
  priorities-made h =
      h ∙ effectives-agree (facts k) (facts (made k n a c)) (λ t. same-own t (ℕ_discrete t 0)) (λ x. same-awaited x (ℕ_discrete _ n))

-- ---- the calls

-- a mutex that is not there is nobody's
pub not-held : {r : MutexRow} → MutexShape r → r.exists ≡ 0 → r.holder ≡ 0
not-held shape e = ⊎_elim (λ g. g.3) (λ g. absurd (omega (arith, g.0))) shape

module _ {w : World} (s : Steady 0 w) where
  abbrev k : Kernel
  k = w.kernel

  pub creates-mutex : (attribute ceiling : ℤ) → Keeps w (CreMtx attribute ceiling)
  unfolding refusals cre_mtx_refusals bad_attribute none_free perform cre_mtx with_kernel with_ceiling with_mutex_attribute with_mutex_exists
  creates-mutex attribute ceiling bytes fit e =
      let passed = none-applies (refusals k (CreMtx attribute ceiling) bytes) e in
      let n = unused k.mutexes.exists mutexes in
      let a = number attribute in
      let f = unused-free k.mutexes.exists mutexes (eqb-false _ 0 (passed 3)) in
      let r = f.0 in
      let free = not-held (s.invariant.of_mutexes.shape n r.0 r.1) f.1 in
      let good = allowed mutex_attributes attribute (passed 1) in
      let range : a ≡ ceilinged → From 1 priorities (number ceiling) = λ q. in-range priorities ceiling (rw (eq-eqb a ceilinged q) at (passed 2)) in
      record {
        invariant =
            rw (set-get_or k.mutexes.holder n 0) at
            (mutex-exchanged s.invariant n r.0 r.1
            (record { exists = 1; attribute = a; ceiling = cond (eqb a ceilinged) (number ceiling) 0; holder = k.mutexes.holder ! n })
            (inr (refl, good, elim (ℕ_discrete a ceilinged) [ yes q ↦ inl (q, rw (eq-eqb a ceilinged q) (range q)) | no d ↦ inr (d, rw (ne_eqb a ceilinged d)) ]))
            (λ z o. absurd (z free))
            (λ u i j p o. absurd (nobody-awaits k k.mutexes.exists locking n f.1 (λ t x y q. (s.invariant.of_mutexes.waits t x y q).there) u i j p o)));
        priorities = priorities-made k n a _ (numbered-at k.mutexes.holder n r.0 ∙ free) s.priorities;
        bitmap = bits-beside k _ refl refl refl s.bitmap;
      }

  pub deletes-mutex : (mutex : ℤ) → Keeps w (DelMtx mutex)
  unfolding refusals deletion_refusals bad_number perform del_mtx settled with_kernel recompute with_currents facts stands_in with_mutex_exists with_mutex_attribute with_ceiling with_holder
  deletes-mutex mutex bytes fit e =
      let m = number mutex in
      let r = in-range mutexes mutex (none-applies (refusals k (DelMtx mutex) bytes) e 1) in
      let absent : MutexRow = record { exists = 0; attribute = 0; ceiling = 0; holder = 0 } in
      let gone : Mutexes → Mutexes = λ x. with_mutex_row x m absent in
      let struck : World → World = strike gone (λ x. x) (λ x. x) (λ x. x) in
      struck-out gone (λ x. x) (λ x. x) (λ x. x) E_DLT (queue_order k (queue locking m)) w (settled (struck w)) refl
      (priorities-recomputed (struck w).kernel) (bits-recomputed (struck w).kernel) refl s (all-started s (queue locking m) (omega arith))
      (λ left. mutex-exchanged left.steady.invariant m r.0 r.1 absent (inl (refl, refl, refl, refl)) (λ z. absurd (z refl))
      (λ u i j p o. absurd (nobody-left s (queue locking m) (omega arith) left (λ t h. h) u i j p o)))

  pub locks-mutex : (mutex timeout : ℤ) → Keeps w (LocMtx mutex timeout)
  unfolding refusals loc_mtx_refusals nobody_runs bad_number no_such no_time lock_waits perform fields_of
  locks-mutex mutex timeout bytes fit e =
      let m = number mutex in
      let passed = none-applies (refusals k (LocMtx mutex timeout) bytes) e in
      let t = running k in
      let f = running-stood k (eqb-false _ 0 (passed 0)) in
      let r = in-range mutexes mutex (passed 2) in
      let there = eqb-false _ 0 (passed 3) in
      let under : Under (mutex_rows k.mutexes m) (k.tasks.base ! t) = λ q. ltb-false _ _ (rw (eq-eqb _ ceilinged q) at (passed 5)) in
      elim (ℕ_discrete (k.mutexes.holder ! m) 0) [
        | yes z ↦
            rw (lock-free w m timeout (rw z))
            (steady-settled w
            (taken s.invariant m r.0 r.1 t there (λ d o. record { started = omega (arith, f.place); under = under })
            (λ u i j p o. absurd ((s.invariant.of_mutexes.waits u i j p).taken (ap (λ (y : ℕ). k.mutexes.holder ! y) o ∙ z)))))
        | no d ↦
            rw (lock-waits w m timeout (rw (ne_eqb _ 0 d)))
            (waits-quiet s t f.low f.high (queue locking m) 0 timeout refl f.place (omega arith, omega arith)
            (meets-mutex k t m (record { there = mutex-there s.invariant m r.0 r.1 there; taken = d; other = eqb-false _ t (passed 4); under = under }))
            (wait-time timeout (lock_waits k m) fit.1.0 (passed 6) (rw (ne_eqb _ 0 d))))
      ]

  pub unlocks-mutex : (mutex : ℤ) → Keeps w (UnlMtx mutex)
  unfolding refusals unl_mtx_refusals bad_number no_such perform unl_mtx
  unlocks-mutex mutex bytes fit e =
      let passed = none-applies (refusals k (UnlMtx mutex) bytes) e in
      let r = in-range mutexes mutex (passed 1) in
      released s (number mutex) r.0 r.1 (eqb-false _ 0 (passed 2))
