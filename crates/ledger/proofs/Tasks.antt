-- The calls on tasks and the ledger.
use Rattle.model.proofs.Terms.{ℕ, ◌≤◌, ◌≢◌, arith, ◌≡◌, ◌∙◌, refl, sym, ap, Bool, true, false, cond, none, Option·map, get_or, set, set-get_or, ℤ, eqb-false, tasks, ◌!◌, number, Queue, queue, ready_queue, absent, dormant, Kernel, with_tasks, with_arrivals, arrived, facts, stands_in, Lent, World, Nothing, begun, with_kernel, running, recompute, arrive, chosen_task, chosen_base, nobody_runs, none_free, cre_tsk_refusals, refusals, cre_tsk, del_tsk, sta_tsk, ext_tsk, ter_tsk, arrives_anew, rejoin, chg_pri, perform, TaskEntry, Ledger, line, depart, with_lines, with_task_entry, on_task, join, starts, joins_anew, rejoins, changes, falls_dormant, answered_with, entered, ledger_runs}
use Rattle.model.specs.declared.call.Call.TheVariants.{CreTsk, DelTsk, StaTsk, ExtTsk, TerTsk, ChgPri}
use Rattle.model.proofs.ByCase.{anew-started}
use Rattle.model.proofs.NumberLaws.{numbered-at}
use Rattle.model.proofs.RefusalLaws.{none-applies, unused-free}
use Rattle.queue.proofs.Members.{running-stood}
use Rattle.invariant.specs.Rows.{TaskRow, task_rows, open_tasks}
use Rattle.invariant.specs.Invariant.{Invariant, Steady}
use Rattle.invariant.proofs.Moves.{with_row, moved, moved_row}
use Rattle.preservation.proofs.Tasks.{is-dormant, terminated-is-started, changed-is-there, base-set}
use Rattle.ledger.specs.Abstraction.{widths, ledger_of}
use Rattle.ledger.proofs.Tables.{with_tasks_and_lines}
use Rattle.ledger.proofs.Lines.{stands_at, joined-lines, joins-own}
use Rattle.ledger.proofs.Bridge.{known}
use Rattle.ledger.proofs.Entries.{task-changed, rows-entered, task-entered, task-rebased}
use Rattle.ledger.proofs.Acts.{not-priorities}
use Rattle.ledger.proofs.Dormant.{dormant-follows}
use Rattle.ledger.proofs.Enters.{Enters, answers}

-- a task that is there joins its line anew in the ledger where it joins its queue anew in the kernel
module _ {w : World} (s : Steady 0 w) (t : ℕ) (low : 1 ≤ t) (high : t ≤ tasks) (there : w.kernel.tasks.place ! t ≢ absent) where
  abbrev now : Kernel
  now = w.kernel

  abbrev own : Queue
  own = queue (now.tasks.place ! t) (now.tasks.object ! t)

  base-is : (facts now).base ! t ≡ now.tasks.base ! t
  unfolding facts
  base-is = numbered-at now.tasks.base t low

  rejoin-entered : rejoins (ledger_of now) t ≡ ledger_of (rejoin now t)
  unfolding joins_anew rejoins arrives_anew rejoin
  rejoin-entered = rw (stands_at s.invariant t low high, (known s).same_facts, (known s).priorities, base-is) (go (arrives_anew now t) refl)
    where
      go : (b : Bool) → arrives_anew now t ≡ b
          → cond b (join (ledger_of now) t own) (ledger_of now) ≡ ledger_of (cond b (with_arrivals now (arrived t now.arrivals)) now)
      go true e =
          let started = anew-started now t e in
          joins-own s.invariant t low high (omega arith)
      go false e = refl

module _ {x : Lent} (s : Steady 0 (begun x)) where
  abbrev k : Kernel
  k = x.kernel

  abbrev l : Ledger
  l = ledger_of k

  abbrev inv : Invariant 0 k x.store x.outbox
  inv = s.invariant

  pub creates-task : (priority : ℤ) → Enters x (CreTsk priority)
  unfolding refusals cre_tsk_refusals none_free perform cre_tsk with_kernel answered_with
  creates-task priority bytes e =
      let free = unused-free k.tasks.place tasks (eqb-false _ 0 (none-applies (refusals k (CreTsk priority) bytes) e 2)) in
      answers _ Nothing _ (task-entered inv _ free.0.0 free.0.1 dormant (number priority) (omega (arith, free.1)))

  pub deletes-task : (task : ℤ) → Enters x (DelTsk task)
  unfolding refusals perform del_tsk with_kernel answered_with
  deletes-task task bytes e =
      let d = is-dormant k task e in
      answers _ Nothing _ (task-entered inv _ d.0 d.1 absent 0 (omega (arith, d.2)))

  -- it is entered as started, and joins the ready line
  module _ (t : ℕ) (low : 1 ≤ t) (high : t ≤ tasks) (was : k.tasks.place ! t ≡ dormant) where
    task-started : starts l t ≡ ledger_of (arrive k t ready_queue)
    unfolding starts on_task with_task_entry join depart with_lines line ledger_of facts stands_in arrive moved with_row open_tasks
    task-started =
        let y = k.tasks in
        let begin : TaskEntry → TaskEntry = λ e. record { base = e.base; initial = e.initial; started = true } in
        let row : TaskRow = moved_row (task_rows y t) ready_queue (y.argument ! t) (y.left ! t) in
        let entries : set l.tasks t (Option·map begin (get_or l.tasks t none)) ≡ (ledger_of (with_tasks k (arrive k t ready_queue).tasks)).tasks =
        rw (task-changed inv t low high begin, was)
        (rows-entered inv t low high row (y.current ! t) (arrive k t ready_queue).tasks
        (rw (set-get_or y.argument t 0, set-get_or y.initial t 0, set-get_or y.base t 0, set-get_or y.current t 0, set-get_or y.left t 0))) in
        let lines = joined-lines inv t low high ready_queue 0 0 (unfold widths in omega arith) in
        λ i. with_tasks_and_lines l (entries i) (lines i)

  pub starts-task : (task : ℤ) → Enters x (StaTsk task)
  unfolding refusals perform sta_tsk with_kernel answered_with
  starts-task task bytes e = let d = is-dormant k task e in answers 0 Nothing _ (task-started (number task) d.0 d.1 d.2)

  pub exits-task : Enters x ExtTsk
  unfolding refusals nobody_runs perform ext_tsk entered
  exits-task bytes e =
      let f = running-stood k (eqb-false _ 0 (none-applies (refusals k ExtTsk bytes) e 0)) in
      record {
        ledger = falls_dormant l (ledger_runs l);
        adds = λ ended. refl;
        follows = rw (known s).runs (dormant-follows s refl (running k) f.low f.high (omega (arith, f.place)));
      }

  pub terminates-task : (task : ℤ) → Enters x (TerTsk task)
  unfolding perform ter_tsk answered_with
  terminates-task task bytes e = let n = terminated-is-started k task bytes e in answers 0 Nothing _ (dormant-follows s refl (number task) n.0 n.1 n.2)

  -- the ledger that has the new base is that of the kernel in which priorities are settled; there the task joins anew, or not
  pub changes-priority : (task priority : ℤ) → Enters x (ChgPri task priority)
  unfolding perform chg_pri with_kernel answered_with changes chosen_task chosen_base recompute open_tasks
  changes-priority task priority bytes e =
      let t = chosen_task k task in
      let n = changed-is-there k task priority bytes e in
      let based = task-rebased inv t n.0.0 n.0.1 (number priority) ∙ sym (not-priorities _) in
      answers 0 Nothing _
      (rw (known s).runs
      (ap (λ (j : Ledger). rejoins j t) based ∙ rejoin-entered (base-set s task priority bytes e) t n.0.0 n.0.1 n.1))
