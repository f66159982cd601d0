-- The calls on tasks keep what holds between acts.
use mathlib.Core.Logic.{⊎_elim}
use Rattle.model.proofs.Terms.{ℕ, zero, suc, ◌≤◌, ◌<◌, ℕ_discrete, arith, ◌≡◌, ◌∙◌, refl, sym, ap, ◌≢◌, inl, inr, false, cond, false≢true, none, List, ◌∷◌, length, set, set-get_or, get_or-set_other, ℤ, eqb, eq-eqb, ne_eqb, eqb-true, eqb-false, lt-leb, not-false, tasks, priorities, mutexes, ◌!◌, up_to, number, E_OK, ready_queue, absent, dormant, ready, locking, sending, Kernel, Tasks, numbered, with_place, with_initial, with_base, with_current, facts, effective, effectives, World, Nothing, with_kernel, with_ended, running, recompute, arrive, settled, leave_kernel, leave, end_wait, unused, first_refusal, nobody_runs, bad_field, bad_number, no_such, none_free, chosen_task, chosen_base, above_ceiling, cre_tsk_refusals, dormant_refusals, ter_tsk_refusals, chg_pri_refusals, refusals, cre_tsk, del_tsk, sta_tsk, ext_tsk, ter_tsk, arrives_anew, rejoin, chg_pri, perform, Each, From, TaskLists, Priorities}
use Rattle.model.specs.declared.call.Call.TheVariants.{CreTsk, DelTsk, StaTsk, ExtTsk, TerTsk, ChgPri}
use Rattle.model.proofs.ByCase.{anew-started, leaves-other, recompute-not}
use Rattle.model.proofs.ListLaws.{by-test, or_left, some-passes, bool-ext, member-count_from}
use Rattle.model.proofs.NumberLaws.{numbered-at, numbered-long, numbered-other, numbered-same}
use Rattle.model.proofs.RefusalLaws.{none-applies, in-range, in-range-from-zero, unused-free}
use Rattle.queue.proofs.Listing.{same-listing}
use Rattle.queue.proofs.Members.{running-stood}
use Rattle.priority.specs.Afresh.{by_task}
use Rattle.priority.specs.Unchanged.{held}
use Rattle.priority.proofs.StartLaws.{by_task-is}
use Rattle.priority.proofs.UnchangedLaws.{same-wait, effectives-except, effective-alone, at-effective}
use Rattle.invariant.specs.Rows.{open_tasks, open_world}
use Rattle.invariant.specs.Invariant.{Invariant, Steady}
use Rattle.invariant.proofs.Exchange.{inside, numbers, set-by-number, set_here}
use Rattle.invariant.proofs.Moves.{Unstarted, based, arrived-anew, holds-nothing, retasked}
use Rattle.ready.proofs.KeptLaws.{bits-beside, unready-kept}
use Rattle.invariant.proofs.Waits.{priorities-beside, steady-settled, ended}
use Rattle.invariant.proofs.Dormant.{falls-dormant}
use Rattle.preservation.proofs.Keeps.{Keeps}
use Rattle.preservation.proofs.Validity.{under-ceiling}

-- a number, or the one that 0 stands for
unless-zero : (n other last : ℕ) → n ≤ last → From 1 last other → From 1 last (cond (eqb n 0) other n)
unless-zero zero other last h r = r
unless-zero (suc n) other last h r = rw (ne_eqb (suc n) 0 (λ (z : suc n ≡ 0). omega arith)) (omega arith, h)

-- a call that asks for a dormant task
pub is-dormant : (k : Kernel) (task : ℤ) → first_refusal (nobody_runs k ∷ dormant_refusals k task) ≡ none
    → (1 ≤ number task) × (number task ≤ tasks) × (k.tasks.place ! number task ≡ dormant)
unfolding dormant_refusals bad_number
is-dormant k task e =
    let passed = none-applies (nobody_runs k ∷ dormant_refusals k task) e in
    let n = in-range tasks task (passed 1) in
    (n.0, n.1, eqb-true _ dormant (not-false _ (passed 3)))

-- one that asks for a started task
pub terminated-is-started : (k : Kernel) (task : ℤ) (bytes : List ℕ) → first_refusal (refusals k (TerTsk task) bytes) ≡ none
    → (1 ≤ number task) × (number task ≤ tasks) × (ready ≤ k.tasks.place ! number task)
unfolding refusals ter_tsk_refusals bad_number no_such
terminated-is-started k task bytes e =
    let passed = none-applies (refusals k (TerTsk task) bytes) e in
    let n = in-range tasks task (passed 1) in
    let there = eqb-false (k.tasks.place ! number task) 0 (passed 2) in
    let started : k.tasks.place ! number task ≢ dormant = λ d. false≢true (sym (passed 3) ∙ or_left _ _ (eq-eqb _ dormant d)) in
    (n.0, n.1, omega arith)

-- and one that asks for a task that is there, the caller for 0
pub changed-is-there : (k : Kernel) (task priority : ℤ) (bytes : List ℕ) → first_refusal (refusals k (ChgPri task priority) bytes) ≡ none
    → From 1 tasks (chosen_task k task) × (k.tasks.place ! chosen_task k task ≢ absent)
unfolding refusals nobody_runs chg_pri_refusals bad_field chosen_task chosen_base
changed-is-there k task priority bytes e =
    let passed = none-applies (refusals k (ChgPri task priority) bytes) e in
    let runs = running-stood k (eqb-false _ 0 (passed 0)) in
    (unless-zero (number task) (running k) tasks (in-range-from-zero tasks task (passed 2)) (runs.low, runs.high), eqb-false _ absent (passed 3))

-- a task that is there joins its queue anew, or keeps its arrival
rejoins : {w : World} → Steady 0 w → (t : ℕ) → 1 ≤ t → t ≤ tasks → w.kernel.tasks.place ! t ≢ absent → Steady 0 (with_kernel w (rejoin w.kernel t))
unfolding with_kernel rejoin open_tasks
rejoins {w} s t low high there =
    by-test (λ (j : Kernel). Steady 0 (with_kernel w j)) (arrives_anew w.kernel t)
    (λ e.
    let started = anew-started w.kernel t e in
    record {
      invariant = arrived-anew s.invariant t low high (omega arith);
      priorities = priorities-beside w.kernel _ _ _ _ s.priorities;
      bitmap = bits-beside w.kernel _ refl refl refl s.bitmap;
    })
    (λ e. s)

module _ {w : World} (s : Steady 0 w) where
  abbrev k : Kernel
  k = w.kernel

  abbrev x : Tasks
  x = k.tasks

  abbrev inv : Invariant 0 k w.store w.outbox
  inv = s.invariant

  abbrev lists : TaskLists x
  lists = inv.of_tasks.lists

  -- ---- a task is created or deleted: it holds nothing and waits for no mutex, so its priority is its base, and nobody else's changes

  module _ (t : ℕ) (low : 1 ≤ t) (high : t ≤ tasks) (was : x.place ! t < ready) (place p : ℕ) (is : place < ready) where
    abbrev k' : Kernel
    k' = with_current (with_base (with_initial (with_place k t place) t p) t p) t p

    nothing-held : (m : ℕ) → numbered k.mutexes.holder ! m ≢ t
    nothing-held zero e = omega arith
    nothing-held (suc m) e =
        let h = sym (numbered-at k.mutexes.holder (suc m) (omega arith)) ∙ e in
        let n = numbers inv.of_mutexes.lists.holder (λ (z : k.mutexes.holder ! suc m ≡ 0). omega arith) in
        holds-nothing inv t low high was (λ (z : t ≡ 0). omega arith) (suc m) n.0 n.1 h

    priorities-kept : Priorities k'
    unfolding Priorities effectives by_task facts held open_tasks
    priorities-kept =
        let c = set-by-number lists.current low p in
        let base = numbered-same x.base t p low (inside lists.base high) in
        by_task-is (effective (facts k')) k'.tasks.current c.long c.none_zero
        (λ u i j.
        elim (ℕ_discrete u t) [
          | yes e ↦ rw e (set_here lists.current high p ∙ sym (effective-alone (facts k') long t high nothing-held ∙ base))
          | no d ↦ get_or-set_other x.current t u p 0 d ∙ ap (λ (cs : List ℕ). cs ! u) s.priorities ∙ at-effective (facts k) u i j ∙ other u j d
        ])
      where
        long : length (facts k').place ≡ suc tasks
        long = numbered-long tasks (set x.place t place) (set-by-number lists.place low place).long

        other : (u : ℕ) → u ≤ tasks → u ≢ t → effective (facts k) u ≡ effective (facts k') u
        other =
            effectives-except (facts k) (facts k') (numbered-long tasks x.place lists.place.long) long t
            (rw (numbered-at x.place t low) (λ (e : x.place ! t ≡ locking). omega arith))
            (rw (numbered-same x.place t place low (inside lists.place high)) (λ (e : place ≡ locking). omega arith))
            (λ u d.
            let same = same-wait (facts k) (facts k') u (sym (numbered-other x.place t place u d)) refl in
            record { base = sym (numbered-other x.base t p u d); wait = same; mutexes = λ m. refl })

    retasks : Unstarted place p → Steady 0 (with_kernel w k')
    unfolding with_kernel
    retasks good =
        let bits = unready-kept k t place p (λ (z : place ≡ ready). omega arith) (λ (z : x.place ! t ≡ ready). omega arith) s.bitmap in
        let kept = same-listing inv.of_tasks.listing t place low high (rw (lt-leb ready (x.place ! t) was, lt-leb ready place is)) in
        record { invariant = retasked inv t low high was place p (λ (z : t ≡ 0). omega arith) good kept; priorities = priorities-kept; bitmap = bits }

  pub creates-task : (priority : ℤ) → Keeps w (CreTsk priority)
  unfolding refusals cre_tsk_refusals bad_field none_free perform cre_tsk
  creates-task priority bytes fit e =
      let passed = none-applies (refusals k (CreTsk priority) bytes) e in
      let free = unused-free x.place tasks (eqb-false _ 0 (passed 2)) in
      let n = free.0 in
      retasks (unused x.place tasks) n.0 n.1 (omega (arith, free.1)) dormant (number priority) (omega arith)
      (inr (refl, in-range priorities priority (passed 1)))

  pub deletes-task : (task : ℤ) → Keeps w (DelTsk task)
  unfolding refusals perform del_tsk
  deletes-task task bytes fit e =
      let d = is-dormant k task e in
      retasks (number task) d.0 d.1 (omega (arith, d.2)) absent 0 (omega arith) (inl (refl, refl))

  -- ---- a task is started: it is as one whose wait ends, since a dormant task has nothing of a wait

  module _ (t : ℕ) (low : 1 ≤ t) (high : t ≤ tasks) (was : x.place ! t ≡ dormant) where
    nothing_left : leave_kernel k t ≡ k
    unfolding leave_kernel open_tasks
    nothing_left =
        let own = inv.of_tasks.each t low high in
        let silent = own.silent (λ (e : x.place ! t ≡ sending). omega arith) in
        let set-zero : (xs : List ℕ) → xs ! t ≡ 0 → set xs t 0 ≡ xs = λ xs e. ap (set xs t) (sym e) ∙ set-get_or xs t 0 in
        ⊎_elim (λ g. rw (set-zero x.object g.1, set-zero x.argument silent, set-zero x.left g.2)) (λ g. absurd (omega (arith, g.0))) own.time

    start_is : end_wait w t E_OK Nothing ≡ with_ended (with_kernel w (arrive k t ready_queue)) t E_OK Nothing
    unfolding end_wait leave open_world
    start_is = rw (nothing_left, was, recompute-not, leaves-other k w.outbox t (λ (z : x.place ! t ≡ sending). omega arith))

  pub starts-task : (task : ℤ) → Keeps w (StaTsk task)
  unfolding refusals perform sta_tsk with_ended
  starts-task task bytes fit e =
      let d = is-dormant k task e in
      let v = rw (start_is (number task) d.0 d.1 d.2) at (ended s (number task) d.0 d.1 E_OK Nothing (omega (arith, d.2))) in
      record { invariant = v.invariant; priorities = v.priorities; bitmap = v.bitmap }

  -- ---- a task becomes dormant

  pub exits-task : Keeps w ExtTsk
  unfolding refusals nobody_runs perform ext_tsk
  exits-task bytes fit e =
      let f = running-stood k (eqb-false _ 0 (none-applies (refusals k ExtTsk bytes) e 0)) in
      falls-dormant s (running k) f.low f.high (omega (arith, f.place))

  pub terminates-task : (task : ℤ) → Keeps w (TerTsk task)
  unfolding perform ter_tsk
  terminates-task task bytes fit e = let n = terminated-is-started k task bytes e in falls-dormant s (number task) n.0 n.1 n.2

  -- ---- a base priority changes: it is set and priorities are settled, and then the task may join its queue anew

  module _ (t : ℕ) (low : 1 ≤ t) (high : t ≤ tasks) (there : x.place ! t ≢ absent) (base : ℕ) (range : From 1 priorities base)
      (fits : Each mutexes (λ m. above_ceiling k base t m ≡ false)) where
    rebased : Steady 0 (with_kernel w (recompute (with_base k t base)))
    unfolding settled with_kernel
    rebased =
        steady-settled w
        (based inv t low high base (omega arith) range (λ m i j q n. under-ceiling k base t m low high (fits m i j) (inl q))
        (λ q.
        let e = (inv.of_mutexes.waits t low high q).there in
        let n = numbers inv.of_mutexes.lists.exists (λ (z : k.mutexes.exists ! (x.object ! t) ≡ 0). omega arith) in
        under-ceiling k base t (x.object ! t) low high (fits _ n.0 n.1) (inr (q, refl))))

  pub base-set : (task priority : ℤ) (bytes : List ℕ) → first_refusal (refusals k (ChgPri task priority) bytes) ≡ none
      → let t = chosen_task k task in Steady 0 (with_kernel w (recompute (with_base k t (chosen_base k t priority))))
  unfolding refusals chg_pri_refusals bad_field chosen_base
  base-set task priority bytes e =
      let passed = none-applies (refusals k (ChgPri task priority) bytes) e in
      let t = chosen_task k task in
      let chosen = changed-is-there k task priority bytes e in
      let n = chosen.0 in
      let there = chosen.1 in
      let first : From 1 priorities (x.initial ! t) = ⊎_elim (λ g. absurd (there g.0)) (λ g. g.1) (inv.of_tasks.each t n.0 n.1).range in
      let base = chosen_base k t priority in
      rebased t n.0 n.1 there base
      (unless-zero (number priority) (x.initial ! t) priorities (in-range-from-zero priorities priority (passed 1)) first)
      (λ m i j.
      let has = member-count_from 1 mutexes m i (omega arith) in
      bool-ext _ false (λ q. sym (passed 4) ∙ some-passes (above_ceiling k base t) m (up_to mutexes) q has) (λ q. absurd (false≢true q)))

  pub changes-priority : (task priority : ℤ) → Keeps w (ChgPri task priority)
  unfolding perform chg_pri with_kernel recompute open_tasks
  changes-priority task priority bytes fit e =
      let chosen = changed-is-there k task priority bytes e in
      rejoins (base-set task priority bytes e) (chosen_task k task) chosen.0.0 chosen.0.1 chosen.1
