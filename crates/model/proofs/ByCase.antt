-- A law for each case of the definitions that go by cases, so that a proof names the case and not the definition's text. Assumes nothing.
use Prim.Native.Nat.{ℕ, zero, suc, pred, ◌≤◌, ◌<◌}
use mathlib.Core.Path.{◌≡◌, refl}
use mathlib.Core.Logic.{◌≢◌}
use mathlib.Core.Bool.{Bool, true, false, false≢true, and-eq-true_iff}
use mathlib.Core.List.{List, [], ◌∷◌}
use mathlib.Core.Option.{none, some}
use lib.ListN.{length}
use lib.IntN.{ℤ, pos}
use borrow.Author.Tests.{eq-eqb, ne_eqb, lt-ltb, le-ltb, le-leb, lt-leb}
use Rattle.model.specs.declared.call.Call.{Call}
use Rattle.model.specs.declared.call.Cursor.{Cursor}
use Rattle.model.specs.declared.call.Progress.TheVariants.{NoArea}
use Rattle.model.specs.Sizes.{endless, log_bytes, script_bytes}
use Rattle.model.specs.Lists.{◌!◌, first_where}
use Rattle.model.specs.Code.{E_OK, E_SYS, E_TMOUT}
use Rattle.model.specs.Facts.{queue, dormant, locking, sending, receiving, getting}
use Rattle.model.specs.Queue.{by_priority}
use Rattle.model.specs.Kernel.{Kernel, facts, with_tasks, with_arrivals, with_currents, with_holder, with_left, with_taken, slot}
use Rattle.model.specs.World.{World, Lent, Nothing, begun, with_kernel, queue_front, recompute, running, with_outbox, Message, Block}
use Rattle.model.specs.Message.{with_outbox_message}
use Rattle.model.specs.Act.{recompute_if, leave_outbox, settled, end_wait, release, serve, wait, store_message}
use Rattle.model.specs.Refusal.{Refusal, first_refusal, refusals, lock_waits, storable, free_block}
use Rattle.model.specs.Effect.{effect, arrives_anew, rejoin, tick_task, loc_mtx, snd_mbf, get_mpf, rel_mpf, waits, succeeds, answered}
use Rattle.model.specs.Valid.{valid}
use Rattle.model.specs.Step.{carried_out, refused, valid_step, step}
use Rattle.model.specs.Record.{found, stopped, read_record, record_message}
use Rattle.model.specs.Log.{stop_bytes, too_long_bytes, outcome_log}
use Rattle.model.specs.Lent.{Areas, lent, is_valid, not_valid, untouched, returned, lent_step, script_over, went, lent_record}
use Rattle.model.specs.Script.{ran, log_then, run_from, run, run_script}
use Rattle.model.proofs.ListLaws.{either}

-- ---- the first that passes a test

module _ (p : ℕ → Bool) (x : ℕ) (xs : List ℕ) where
  pub first-here : p x ≡ true → first_where p (x ∷ xs) ≡ x
  first-here e = rw (e, first_where)

  pub first-later : p x ≡ false → first_where p (x ∷ xs) ≡ first_where p xs
  first-later e = rw (e, first_where)

-- ---- acts

-- a kernel with all current priorities and the bits exchanged
abbrev pub with_currents_and_bits : Kernel → List ℕ → List ℕ → Kernel
with_currents_and_bits k current bitmap =
    record {
      tasks = (with_currents k current).tasks;
      arrivals = k.arrivals;
      bitmap = bitmap;
      mutexes = k.mutexes;
      buffers = k.buffers;
      pools = k.pools;
    }

module _ (k : Kernel) where
  pub recompute-if : recompute_if true k ≡ recompute k
  unfolding recompute_if
  recompute-if = refl

  pub recompute-not : recompute_if false k ≡ k
  unfolding recompute_if
  recompute-not = refl

  -- nothing but current priorities and the bits
  pub recompute-only : (b : Bool) → recompute_if b k ≡ with_currents_and_bits k (recompute_if b k).tasks.current (recompute_if b k).bitmap
  unfolding recompute_if recompute with_currents with_tasks
  recompute-only true = refl
  recompute-only false = refl

  -- nothing but arrivals
  pub rejoin-only : (t : ℕ) → rejoin k t ≡ with_arrivals k (rejoin k t).arrivals
  unfolding rejoin with_arrivals
  rejoin-only t = either (λ (j : Kernel). j ≡ with_arrivals k j.arrivals) (arrives_anew k t) refl refl

  -- a dormant task does not arrive
  pub anew-started : (t : ℕ) → arrives_anew k t ≡ true → k.tasks.place ! t ≢ dormant
  unfolding arrives_anew by_priority
  anew-started t e d = false≢true (rw d at ((and-eq-true_iff (by_priority (facts k) (queue (k.tasks.place ! t) (k.tasks.object ! t))) _).0 e).0)

  module _ (outbox : List ℕ) (t : ℕ) where
    pub leaves-sending : k.tasks.place ! t ≡ sending → leave_outbox k outbox t ≡ with_outbox_message t outbox []
    unfolding leave_outbox
    leaves-sending e = rw (eq-eqb _ _ e)

    pub leaves-other : k.tasks.place ! t ≢ sending → leave_outbox k outbox t ≡ outbox
    unfolding leave_outbox
    leaves-other e = rw (ne_eqb _ _ e)

module _ (w : World) (m : ℕ) where
  pub release-free : queue_front w.kernel (queue locking m) ≡ 0 → release w m ≡ settled (with_kernel w (with_holder w.kernel m 0))
  unfolding release
  release-free e = rw e

  pub release-next : {t : ℕ} → queue_front w.kernel (queue locking m) ≡ t → t ≢ 0
      → release w m ≡ end_wait (with_kernel w (with_holder w.kernel m t)) t E_OK Nothing
  unfolding release
  release-next e n = rw (e, ne_eqb _ _ n)

module _ (can : World → Bool) (act : World → World) (w : World) where
  pub serve-more : (n : ℕ) → can w ≡ true → serve (suc n) can act w ≡ serve n can act (act w)
  serve-more n e = rw (e, serve)

  pub serve-stop : (n : ℕ) → can w ≡ false → serve n can act w ≡ w
  serve-stop zero e = refl
  serve-stop (suc n) e = rw (e, serve)

-- a millisecond for one task
module _ (w : World) (t : ℕ) where
  pub tick-none : w.kernel.tasks.left ! t ≡ 0 → tick_task w t ≡ w
  unfolding tick_task
  tick-none e = rw e

  pub tick-endless : w.kernel.tasks.left ! t ≡ endless → tick_task w t ≡ w
  unfolding tick_task
  tick-endless e = rw e

  pub tick-last : w.kernel.tasks.left ! t ≡ 1 → tick_task w t ≡ end_wait w t E_TMOUT Nothing
  unfolding tick_task
  tick-last e = rw e

  pub tick-more : w.kernel.tasks.left ! t ≢ 0 → w.kernel.tasks.left ! t ≢ 1 → w.kernel.tasks.left ! t ≢ endless
      → tick_task w t ≡ with_kernel w (with_left w.kernel t (pred (w.kernel.tasks.left ! t)))
  unfolding tick_task
  tick-more h i j = rw (ne_eqb _ _ h, ne_eqb _ _ i, ne_eqb _ _ j)

-- ---- calls that may wait

module _ (w : World) (n : ℕ) (timeout : ℤ) where
  pub lock-waits : lock_waits w.kernel n ≡ true → loc_mtx w n timeout ≡ waits (wait w (running w.kernel) (queue locking n) 0 timeout)
  unfolding loc_mtx
  lock-waits e = rw e

  pub lock-free : lock_waits w.kernel n ≡ false → loc_mtx w n timeout ≡ succeeds (settled (with_kernel w (with_holder w.kernel n (running w.kernel))))
  unfolding loc_mtx
  lock-free e = rw e

  pub get-waits : free_block w.kernel n ≡ 0 → get_mpf w n timeout ≡ waits (wait w (running w.kernel) (queue getting n) 0 timeout)
  unfolding get_mpf
  get-waits e = rw e

  pub get-block : {b : ℕ} → free_block w.kernel n ≡ b → b ≢ 0 → get_mpf w n timeout ≡ answered E_OK (Block b) (with_kernel w (with_taken w.kernel (slot n b) 1))
  unfolding get_mpf
  get-block e d = rw (e, ne_eqb _ _ d)

module _ (w : World) (n : ℕ) (m : List ℕ) (timeout : ℤ) where
  pub send-over : {r : ℕ} → queue_front w.kernel (queue receiving n) ≡ r → r ≢ 0 → snd_mbf w n m timeout ≡ succeeds (end_wait w r (pos (length m)) (Message m))
  unfolding snd_mbf
  send-over e d = rw (e, ne_eqb _ _ d)

  module _ (nobody : queue_front w.kernel (queue receiving n) ≡ 0) where
    pub send-stored : storable w.kernel n (length m) ≡ true → snd_mbf w n m timeout ≡ succeeds (store_message w n m)
    unfolding snd_mbf
    send-stored e = rw (nobody, e)

    pub send-waits : storable w.kernel n (length m) ≡ false
        → snd_mbf w n m timeout ≡ waits (wait (with_outbox w (with_outbox_message (running w.kernel) w.outbox m)) (running w.kernel) (queue sending n) (length m) timeout)
    unfolding snd_mbf
    send-waits e = rw (nobody, e)

module _ (w : World) (n b : ℕ) where
  pub return-free : queue_front w.kernel (queue getting n) ≡ 0 → rel_mpf w n b ≡ succeeds (with_kernel w (with_taken w.kernel (slot n b) 0))
  unfolding rel_mpf
  return-free e = rw e

  pub return-next : {t : ℕ} → queue_front w.kernel (queue getting n) ≡ t → t ≢ 0 → rel_mpf w n b ≡ succeeds (end_wait w t E_OK (Block b))
  unfolding rel_mpf
  return-next e d = rw (e, ne_eqb _ _ d)

-- ---- refusals and the step

module _ (r : Refusal) (rs : List Refusal) where
  pub refusal-applies : r.applies ≡ true → first_refusal (r ∷ rs) ≡ some r.code
  refusal-applies e = rw (e, first_refusal)

  pub refusal-not : r.applies ≡ false → first_refusal (r ∷ rs) ≡ first_refusal rs
  refusal-not e = rw (e, first_refusal)

module _ (x : Lent) (c : Call) (bytes : List ℕ) where
  pub step-refused : {e : ℤ} → first_refusal (refusals x.kernel c bytes) ≡ some e → valid_step x c bytes ≡ refused x e (running x.kernel)
  unfolding valid_step
  step-refused e = rw (e, valid_step)

  pub step-done : first_refusal (refusals x.kernel c bytes) ≡ none → valid_step x c bytes ≡ carried_out (effect (begun x) c bytes)
  unfolding valid_step
  step-done e = rw (e, valid_step)

  pub step-valid : valid x ≡ true → step x c bytes ≡ valid_step x c bytes
  unfolding step
  step-valid e = rw (e, step)

  pub step-not-valid : valid x ≡ false → step x c bytes ≡ refused x E_SYS 0
  unfolding step
  step-not-valid e = rw (e, step)

-- ---- the step on what is lent

module _ (a : Areas) (c : Call) (bytes : List ℕ) where
  pub lent-untouched : length a.log ≢ log_bytes → lent_step a c bytes ≡ untouched a
  unfolding lent_step
  lent-untouched n = rw (ne_eqb _ _ n)

  module _ (log : length a.log ≡ log_bytes) where
    pub lent-not-valid : is_valid a.words a.store a.outbox ≡ false → lent_step a c bytes ≡ not_valid a
    unfolding lent_step
    lent-not-valid e = rw (eq-eqb _ _ log, e)

    pub lent-valid : is_valid a.words a.store a.outbox ≡ true
        → lent_step a c bytes ≡ returned a (valid_step (lent a.words a.store a.outbox) c bytes)
    unfolding lent_step
    lent-valid e = rw (eq-eqb _ _ log, e)

module _ (a : Areas) (script : List ℕ) (at : ℕ) where
  pub record-no-area : length a.log ≢ log_bytes → lent_record a script at ≡ record { progress = NoArea; written = 0; areas = a }
  unfolding lent_record
  record-no-area n = rw (ne_eqb _ _ n)

  module _ (log : length a.log ≡ log_bytes) where
    pub record-too-long : script_bytes < length script → lent_record a script at ≡ script_over a too_long_bytes
    unfolding lent_record
    record-too-long h = rw (eq-eqb _ _ log, lt-ltb _ _ h)

    module _ (short : length script ≤ script_bytes) where
      pub record-end : length script ≤ at → lent_record a script at ≡ script_over a []
      unfolding lent_record
      record-end h = rw (eq-eqb _ _ log, le-ltb _ _ short, le-leb _ _ h)

      module _ (inside : at < length script) where
        pub record-stops : {offset : ℕ} → read_record script at ≡ stopped offset → lent_record a script at ≡ script_over a (stop_bytes offset)
        unfolding lent_record
        record-stops e = rw (eq-eqb _ _ log, le-ltb _ _ short, lt-leb _ _ inside, e)

        pub record-runs : {c : Call} {next : Cursor} → read_record script at ≡ found c next
            → lent_record a script at ≡ went (lent_step a c (record_message script at)) next.at
        unfolding lent_record
        record-runs e = rw (eq-eqb _ _ log, le-ltb _ _ short, lt-leb _ _ inside, e)

-- ---- a run of records

module _ (n : ℕ) (x : Lent) (script : List ℕ) (at : ℕ) where
  pub run-over : length script ≤ at → run_from (suc n) x script at ≡ ran [] x
  run-over h = rw (le-leb (length script) at h, run_from)

  module _ (inside : at < length script) where
    pub run-stops : {offset : ℕ} → read_record script at ≡ stopped offset → run_from (suc n) x script at ≡ ran (stop_bytes offset) x
    run-stops e = rw (lt-leb (length script) at inside, e, run_from)

    pub run-goes-on : {c : Call} {next : Cursor} → read_record script at ≡ found c next
        → run_from (suc n) x script at
        ≡ log_then (outcome_log (running x.kernel) (step x c (record_message script at))) (run_from n (step x c (record_message script at)).lent script next.at)
    run-goes-on e = rw (lt-leb (length script) at inside, e, run_from)

module _ (x : Lent) (script : List ℕ) where
  pub script-too-long : script_bytes < length script → run_script x script ≡ ran too_long_bytes x
  unfolding run_script
  script-too-long h = rw (lt-ltb script_bytes (length script) h, run_script)

  pub script-runs : length script ≤ script_bytes → run_script x script ≡ run x script
  unfolding run_script
  script-runs h = rw (le-ltb script_bytes (length script) h, run_script)
