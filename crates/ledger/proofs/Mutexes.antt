-- The calls on mutexes and the ledger.
use Rattle.model.proofs.Terms.{E_DLT, ℕ, ℕ_discrete, arith, ◌≡◌, ◌∙◌, refl, sym, ap, cond, none, set-get_or, ℤ, eqb, ne_eqb, eqb-false, mutexes, ◌!◌, number, queue, locking, ceilinged, Kernel, Mutexes, with_mutexes, with_mutex_exists, with_mutex_attribute, with_ceiling, with_holder, with_currents, facts, stands_in, Lent, Nothing, begun, with_kernel, with_outbox, queue_order, running, recompute, settled, unused, lock_waits, nobody_runs, bad_number, none_free, cre_mtx_refusals, loc_mtx_refusals, unl_mtx_refusals, deletion_refusals, refusals, cre_mtx, del_mtx, unl_mtx, perform, with_mutex_entry, join, depart, with_lines, line, waits_in, answered_with}
use Rattle.model.specs.declared.call.Call.TheVariants.{CreMtx, DelMtx, LocMtx, UnlMtx}
use Rattle.model.proofs.RefusalLaws.{none-applies, in-range, unused-free}
use Rattle.model.proofs.ByCase.{lock-waits, lock-free}
use Rattle.invariant.specs.Rows.{MutexRow, with_mutex_row}
use Rattle.invariant.specs.Invariant.{Steady}
use Rattle.invariant.proofs.Ends.{strike}
use Rattle.preservation.proofs.Mutexes.{not-held}
use Rattle.preservation.proofs.Objects.{all-started}
use Rattle.ledger.specs.Abstraction.{mutex_entry, widths, ledger_of}
use Rattle.ledger.proofs.Bridge.{known}
use Rattle.ledger.proofs.Entries.{mutex-entered, held_by-ledger}
use Rattle.ledger.proofs.Acts.{not-priorities, release-follows, strike-follows}
use Rattle.ledger.proofs.Enters.{Enters, answers, caller-waits}

module _ {x : Lent} (s : Steady 0 (begun x)) where
  abbrev k : Kernel
  k = x.kernel

  pub creates-mutex : (attribute ceiling : ℤ) → Enters x (CreMtx attribute ceiling)
  unfolding refusals cre_mtx_refusals none_free perform cre_mtx with_kernel answered_with
  creates-mutex attribute ceiling bytes e =
      let m = unused k.mutexes.exists mutexes in
      let free = unused-free k.mutexes.exists mutexes (eqb-false _ 0 (none-applies (refusals k (CreMtx attribute ceiling) bytes) e 3)) in
      let holder = not-held (s.invariant.of_mutexes.shape m free.0.0 free.0.1) free.1 in
      answers m Nothing _ (ap (λ (h : ℕ). with_mutex_entry (ledger_of k) m (mutex_entry (new h))) (sym holder)
      ∙ mutex-entered s.invariant m free.0.1 (new _) ∙ ap ledger_of (is m))
    where
      new : ℕ → MutexRow
      new h = record { exists = 1; attribute = number attribute; ceiling = cond (eqb (number attribute) ceilinged) (number ceiling) 0; holder = h }

      is : (m : ℕ) → with_mutexes k (with_mutex_row k.mutexes m (new (k.mutexes.holder ! m)))
          ≡ with_ceiling (with_mutex_attribute (with_mutex_exists k m 1) m (number attribute)) m (cond (eqb (number attribute) ceilinged) (number ceiling) 0)
      is m = unfold with_mutexes with_mutex_exists with_mutex_attribute with_ceiling in rw (set-get_or k.mutexes.holder m 0)

  pub deletes-mutex : (mutex : ℤ) → Enters x (DelMtx mutex)
  unfolding refusals deletion_refusals bad_number perform del_mtx settled with_kernel recompute with_currents facts stands_in
      with_mutexes with_mutex_exists with_mutex_attribute with_ceiling with_holder answered_with with_mutex_entry join depart with_lines line
  deletes-mutex mutex bytes e =
      let m = number mutex in
      let r = in-range mutexes mutex (none-applies (refusals k (DelMtx mutex) bytes) e 1) in
      let absent : MutexRow = record { exists = 0; attribute = 0; ceiling = 0; holder = 0 } in
      let gone : Mutexes → Mutexes = λ y. with_mutex_row y m absent in
      let order = queue_order k (queue locking m) in
      let started = all-started s (queue locking m) (omega arith) in
      answers 0 Nothing _
      (strike-follows gone (λ y. y) (λ y. y) (λ y. y) (λ l. with_mutex_entry l m none) (λ l t q. refl) E_DLT refl order (begun x)
      (settled (strike gone (λ y. y) (λ y. y) (λ y. y) (begun x))) refl s refl started
      (λ left. mutex-entered left.steady.invariant m r.1 absent))

  pub locks-mutex : (mutex timeout : ℤ) → Enters x (LocMtx mutex timeout)
  unfolding refusals loc_mtx_refusals nobody_runs bad_number lock_waits perform settled with_kernel with_outbox answered_with waits_in
  locks-mutex mutex timeout bytes e =
      let m = number mutex in
      let passed = none-applies (refusals k (LocMtx mutex timeout) bytes) e in
      let runs = eqb-false (running k) 0 (passed 0) in
      let r = in-range mutexes mutex (passed 2) in
      elim (ℕ_discrete (k.mutexes.holder ! m) 0) [
        | yes z ↦ rw (lock-free (begun x) m timeout (rw z)) (answers 0 Nothing _ (rw (known s).runs (held_by-ledger s.invariant m (running k) r.1 ∙ sym (not-priorities _))))
        | no d ↦
            rw (lock-waits (begun x) m timeout (rw (ne_eqb _ 0 d)))
            (caller-waits s runs (LocMtx mutex timeout) (queue locking m) 0 timeout x.outbox refl (omega arith) (unfold widths in omega (arith, r.1)))
      ]

  pub unlocks-mutex : (mutex : ℤ) → Enters x (UnlMtx mutex)
  unfolding refusals unl_mtx_refusals bad_number perform unl_mtx answered_with
  unlocks-mutex mutex bytes e =
      let r = in-range mutexes mutex (none-applies (refusals k (UnlMtx mutex) bytes) e 1) in
      answers 0 Nothing _ (release-follows s refl (number mutex) r.1)
