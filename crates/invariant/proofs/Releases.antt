-- A mutex is taken, given up, or passes to the first that waits; a task becomes dormant and gives up all that it holds.
use mathlib.Core.Logic.{⊎_elim}
use Rattle.model.proofs.Terms.{ℕ, suc, ◌≤◌, ◌<◌, ℕ_discrete, arith, ◌≡◌, ◌∙◌, refl, sym, ap, subst, ◌≢◌, inr, cond, List, set, set-get_or, get_or-set_other, eqb, eq-eqb, ne_eqb, tasks, mutexes, ◌!◌, E_OK, queue, ready_queue, dormant, ready, locking, Kernel, with_mutexes, with_holder, arrived, facts, ready_at, World, Nothing, with_kernel, queue_front, recompute, arrive, recompute_if, settled, leave_kernel, leave_outbox, leave, end_wait, release, release_all, Each, Priorities, Bitmap}
use Rattle.model.proofs.ByCase.{recompute-only, release-free, release-next}
use Rattle.queue.proofs.Members.{Stood, front-stood, nobody-there}
use Rattle.ready.proofs.KeptLaws.{bits-recomputed}
use Rattle.invariant.specs.Rows.{MutexRow, mutex_rows, open_tasks, open_world, open_end}
use Rattle.invariant.specs.Invariant.{Under, Holding, Invariant, Steady}
use Rattle.invariant.proofs.Exchange.{set_here}
use Rattle.invariant.proofs.Parts.{recomputed, with-bits, exiting-exchanged, mutex-exchanged}
use Rattle.invariant.proofs.Moves.{with_row, moved}
use Rattle.model.proofs.Folds.{numbers_keep}
use Rattle.invariant.proofs.Waits.{priorities-recomputed, steady-settled, ready-is, ready-again}

-- ---- another holder

module _ {exiting : ℕ} {k : Kernel} {store outbox : List ℕ} (v : Invariant exiting k store outbox) (m : ℕ) (low : 1 ≤ m) (high : m ≤ mutexes) where
  abbrev mutex : MutexRow
  mutex = mutex_rows k.mutexes m

  pub mutex-there : mutex.exists ≢ 0 → mutex.exists ≡ 1
  mutex-there n = ⊎_elim (λ g. absurd (n g.0)) (λ g. g.0) (v.of_mutexes.shape m low high)

  -- a mutex that is held is there
  pub held-there : mutex.holder ≢ 0 → mutex.exists ≢ 0
  held-there n = ⊎_elim (λ g. absurd (n g.3)) (λ g (z : mutex.exists ≡ 0). omega (arith, g.0)) (v.of_mutexes.shape m low high)

  -- a task takes it, or nobody (0); whoever waits there waits for another than itself
  pub taken : (t : ℕ) → mutex.exists ≢ 0 → (t ≢ 0 → t ≢ exiting → Holding mutex (k.tasks.place ! t) (k.tasks.base ! t))
      → Each tasks (λ u. k.tasks.place ! u ≡ locking → k.tasks.object ! u ≡ m → (t ≢ 0) × (t ≢ u))
      → Invariant exiting (with_holder k m t) store outbox
  unfolding with_holder with_mutexes
  taken t there holds waiters =
      rw (set-get_or, set-get_or, set-get_or) at
      (mutex-exchanged v m low high (record { exists = mutex.exists; attribute = mutex.attribute; ceiling = mutex.ceiling; holder = t })
      (⊎_elim (λ g. absurd (there g.0)) (λ g. inr g) (v.of_mutexes.shape m low high)) (λ z n. record { started = (holds z n).started; under = (holds z n).under })
      (λ u i j p o.
      let l = v.of_mutexes.waits u i j p in
      let n = waiters u i j p o in
      record { there = mutex-there there; taken = n.0; other = n.1; under = subst (λ (x : ℕ). Under (mutex_rows k.mutexes x) (k.tasks.base ! u)) o l.under }))

-- ---- a mutex is given up

module _ {exiting : ℕ} {w : World} (s : Steady exiting w) (m : ℕ) (low : 1 ≤ m) (high : m ≤ mutexes) (there : w.kernel.mutexes.exists ! m ≢ 0) where
  abbrev k : Kernel
  k = w.kernel

  abbrev first : ℕ
  first = queue_front k (queue locking m)

  -- nobody waits: it is free
  freed : first ≡ 0 → Steady exiting (release w m)
  freed e =
      rw (release-free w m e)
      (steady-settled w
      (taken s.invariant m low high 0 there (λ z. absurd (z refl)) (λ u i j p o. absurd (nobody-there k s.invariant.of_tasks.listing (queue locking m) (omega arith) e u i j p o))))

  -- the first that waits, which is ready before it holds the mutex
  module _ (f : Stood k (queue locking m) first) where
    place : set k.tasks.place first ready ! first ≡ ready
    place = set_here s.invariant.of_tasks.lists.place f.high ready

    passed : Invariant exiting (with_holder (moved k first ready_queue 0 0 (arrived first k.arrivals)) m first) w.store (leave_outbox k w.outbox first)
    unfolding moved with_row open_tasks
    passed =
        let l = s.invariant.of_mutexes.waits first f.low f.high f.place in
        let under : Under (mutex_rows k.mutexes m) (k.tasks.base ! first) = rw f.object at l.under in
        taken (ready-again s first f.low f.high (omega (arith, f.place))) m low high first there
        (λ z o. record { started = rw place (omega arith); under = rw (set-get_or k.tasks.base first 0) under })
        (λ u i j p o. ((λ (z : first ≡ 0). omega (arith, f.low)), λ e. omega (arith, sym place ∙ ap (λ (x : ℕ). set k.tasks.place first ready ! x) e ∙ p)))

    act-is : (end_wait (with_kernel w (with_holder k m first)) first E_OK Nothing).kernel ≡ recompute (with_holder (arrive (leave_kernel k first) first ready_queue) m first)
    unfolding recompute_if ready_at facts with_holder with_mutexes open_end
    act-is = rw f.place

    passes : Steady exiting (end_wait (with_kernel w (with_holder k m first)) first E_OK Nothing)
    unfolding end_wait leave leave_outbox with_holder with_mutexes open_world
    passes =
        let e = act-is ∙ ap (λ (j : Kernel). recompute (with_holder j m first)) (ready-is k first) in
        record {
          invariant = subst (λ (j : Kernel). Invariant exiting j w.store (leave_outbox k w.outbox first)) (sym e) (recomputed (with-bits passed _));
          priorities = subst Priorities (sym e) (priorities-recomputed _);
          bitmap = subst Bitmap (sym e) (bits-recomputed _);
        }

  -- "the first waiter gets it"; without a waiter it is free
  pub released : Steady exiting (release w m)
  released = elim (ℕ_discrete first 0) [ yes e ↦ freed e | no d ↦ rw (release-next w m refl d) (passes (front-stood k (queue locking m) d)) ]

-- what a release changes of holders and places
module _ (w : World) (m : ℕ) where
  abbrev front : ℕ
  front = queue_front w.kernel (queue locking m)

  pub passed_on : ((release w m).kernel.mutexes.holder ≡ set w.kernel.mutexes.holder m front)
      × ((u : ℕ) → u ≢ front → (release w m).kernel.tasks.place ! u ≡ w.kernel.tasks.place ! u)
  unfolding settled recompute with_holder open_end
  passed_on =
      elim (ℕ_discrete front 0) [
        | yes e ↦ rw (release-free w m e, e) (refl, λ u d. refl)
        | no d ↦
            rw (release-next w m refl d) (
              ap (λ (j : Kernel). j.mutexes.holder) (recompute-only _ _),
              λ u n. ap (λ (j : Kernel). j.tasks.place ! u) (recompute-only _ _) ∙ get_or-set_other w.kernel.tasks.place front u ready 0 n,
            )
      ]

-- ---- a task that has become dormant gives up its mutexes, from the lowest number on

pub record Giving (t n : ℕ) (w : World) : Type 0 where
  pub steady : Steady t w
  pub out : w.kernel.tasks.place ! t ≡ dormant
  pub given : (m : ℕ) → 1 ≤ m → m < n → w.kernel.mutexes.holder ! m ≢ t

module _ (t : ℕ) (low : 1 ≤ t) where
  abbrev pub gives : World → ℕ → World
  gives v m = cond (eqb (v.kernel.mutexes.holder ! m) t) (release v m) v

  -- it waits for none
  pub not_first : (w : World) (m : ℕ) → w.kernel.tasks.place ! t ≡ dormant → queue_front w.kernel (queue locking m) ≢ t
  not_first w m out e =
      let f = front-stood w.kernel (queue locking m) (λ (z : queue_front w.kernel (queue locking m) ≡ 0). omega arith) in
      let p = sym (ap (λ (x : ℕ). w.kernel.tasks.place ! x) e) ∙ f.place in
      omega arith

  pub give : (m : ℕ) (w : World) → 1 ≤ m → m ≤ mutexes → Giving t m w → Giving t (suc m) (gives w m)
  give m w i j g =
      let v = g.steady.invariant in
      let first = queue_front w.kernel (queue locking m) in
      let holders = w.kernel.mutexes.holder in
      elim (ℕ_discrete (holders ! m) t) [
        | yes e ↦
            rw (eq-eqb (holders ! m) t e)
            (record {
              steady = released g.steady m i j (held-there v m i j (λ (z : holders ! m ≡ 0). omega arith));
              out = (passed_on w m).1 t (λ q. not_first w m g.out (sym q)) ∙ g.out;
              given = λ n l h.
                  rw (passed_on w m).0
                  (elim (ℕ_discrete n m) [
                    | yes q ↦ rw (q, set_here v.of_mutexes.lists.holder j first) (not_first w m g.out)
                    | no q ↦ rw (get_or-set_other holders m n first 0 q) (g.given n l (omega arith))
                  ]);
            })
        | no d ↦
            rw (ne_eqb (holders ! m) t d)
            (record { steady = g.steady; out = g.out; given = λ n l h. elim (ℕ_discrete n m) [ yes q ↦ rw q d | no q ↦ g.given n l (omega arith) ] })
      ]

  -- then nobody owns any
  pub gave : (w : World) → Steady t w → w.kernel.tasks.place ! t ≡ dormant → Steady 0 (release_all w t)
  unfolding release_all
  gave w s out =
      let g = numbers_keep (Giving t) gives mutexes give w (record { steady = s; out = out; given = λ m i j. absurd (omega arith) }) in
      record {
        invariant = exiting-exchanged g.steady.invariant 0 (λ m i j z n. g.steady.invariant.of_mutexes.held m i j z (g.given m i (omega arith)));
        priorities = g.steady.priorities;
        bitmap = g.steady.bitmap;
      }
