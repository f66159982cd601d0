-- What each call that is not refused does to the waits of a valid state: waits end, the caller's may begin, and one delivery may be made.
use Rattle.model.proofs.Terms.{ℕ, ◌+◌, ◌*◌, ◌≤◌, arith, ◌≡◌, ◌∙◌, refl, sym, subst, not, none, List, [], length, set, length-set, get_or-set_other, ℤ, eqb, le-leb, eqb-false, not-true, tasks, ◌!◌, number, E_OK, E_DLT, queue, absent, dormant, ready, locking, sending, receiving, getting, Queue, Kernel, Lent, Nothing, Message, Block, begun, running, with_kernel, with_outbox, queue_front, settled, arrive, recompute_if, wait, store_message, first_refusal, refusals, nobody_runs, lock_waits, storable, free_block, Done, succeeds, waits, take_oldest, drain, perform, carried_out, Outcome, cre_tsk, del_tsk, sta_tsk, ext_tsk, ter_tsk, chg_pri, cre_mtx, del_mtx, loc_mtx, unl_mtx, cre_mbf, del_mbf, snd_mbf, rcv_mbf, cre_mpf, del_mpf, get_mpf, rel_mpf, tick_task, tick, fields_of, Wait, Valid}
use Rattle.model.proofs.ListLaws.{by-test}
use Rattle.model.proofs.ByCase.{rejoin-only}
use mathlib.Core.Logic.{⊎_elim}
use Rattle.model.specs.declared.call.Call.{Call}
use Rattle.model.specs.declared.call.Call.TheVariants.{CreTsk, DelTsk, StaTsk, ExtTsk, TerTsk, ChgPri, CreMtx, DelMtx, LocMtx, UnlMtx, CreMbf, DelMbf, SndMbf, RcvMbf, CreMpf, DelMpf, GetMpf, RelMpf, Tick}
use Rattle.model.specs.Kernel.{compute_kernel}
use Rattle.model.specs.World.{compute_world}
use Rattle.model.proofs.RefusalLaws.{applies_at, none-applies}
use Rattle.model.proofs.Folds.{numbers_keep}
use Rattle.queue.proofs.Listing.{Listing, listing-from}
use Rattle.log_bound.specs.Statements.{longest_delivery, ended_length, bytes_for_one, times_ended, delivers, deliveries, waiting}
use Rattle.log_bound.proofs.Acts.{waiting_at, waits-once, waiting-set, Counted, Counts, none-ended, placed, drain-counts, front_ends, release-counts, dormant-counts, waits_end, queue-waits, queues-wait, Timed, tick-counts}

-- what the fields of a call's record allow for, at seven bytes of log for each of their bytes
abbrev pub allowance : Call → ℕ
allowance c = bytes_for_one * (4 * length (fields_of c))

-- What holds of every outcome. By the last, what is logged beyond seven bytes is paid for by the call's fields and by the waits that stood before.
pub record Bounded (x : Lent) (c : Call) (o : Outcome) : Type 0 where
  pub each : (t : ℕ) → times_ended t o.ended ≤ 1
  pub few : length o.ended ≤ tasks
  pub once : deliveries o ≤ 1
  pub covered : ended_length * (length o.ended + waiting o.lent.kernel) + longest_delivery * deliveries o ≤ allowance c + ended_length * waiting x.kernel

module _ (x : Lent) (valid : Valid x) where
  abbrev k : Kernel
  k = x.kernel

  listing : Listing k.tasks.place k.arrivals
  listing = listing-from k valid.is_task_lists.place.long valid.is_lengths.arrivals valid.is_arrivals

  start : Counts (waiting k) 0 (begun x)
  start = none-ended k.tasks.place valid.is_task_lists.place

  -- of what a call comes to before the drain
  pub record After (c : Call) (d : Done) : Type 0 where
    pub drained : Bounded x c (carried_out (record { answer = d.answer; delivery = d.delivery; world = drain d.world }))

  module _ {c : Call} where
    -- m waits at most stand or have ended before the drain, and n ended waits deliver; the drain keeps the count
    performed : {m : ℕ} (n : ℕ) {d : Done} → Counts m n d.world
        → (delivers d.delivery + n ≤ 1) × (ended_length * m + longest_delivery * (delivers d.delivery + n) ≤ allowance c + ended_length * waiting k) → After c d
    unfolding carried_out
    performed n {d} counts h =
        let all = drain-counts d.world counts in
        let total = all.total in
        let handed = all.handed in
        record { drained = record { each = λ t. omega (arith, all.each t); few = omega (arith, all.few); once = omega arith; covered = omega arith } }

    -- The caller's wait begins: somebody runs, or the call were refused. It logs 6 bytes when it ends, and a field allows for that.
    begins : (outbox : List ℕ) (q : Queue) (n : ℕ) (timeout : ℤ) (bytes : List ℕ) → first_refusal (refusals k c bytes) ≡ none
        → applies_at (refusals k c bytes) 0 ≡ eqb (running k) 0 → ended_length ≤ allowance c
        → After c (waits (wait (with_outbox (begun x) outbox) (running k) q n timeout))
    unfolding wait arrive recompute_if compute_kernel compute_world
    begins outbox q n timeout bytes e first covered =
        let ps = k.tasks.place in
        let after = set ps (running k) q.place in
        let places = valid.is_task_lists.place in
        let runs = eqb-false (running k) 0 (sym first ∙ none-applies (refusals k c bytes) e 0) in
        let zero = get_or-set_other ps (running k) 0 q.place 0 (λ e. runs (sym e)) in
        let all = none-ended after (record { long = rw length-set places.long; none_zero = rw zero places.none_zero }) in
        performed 0 (by-test (λ (j : Kernel). Counted (waiting_at after) 0 j.tasks.place []) (eqb q.place locking) (λ e. all) (λ e. all))
        (omega (arith, waiting-set ps (running k) q.place, waits-once q.place))

  pub performs : (c : Call) (bytes : List ℕ) → first_refusal (refusals k c bytes) ≡ none → After c (perform (begun x) c bytes)
  unfolding perform cre_tsk del_tsk sta_tsk ext_tsk ter_tsk chg_pri cre_mtx del_mtx loc_mtx unl_mtx cre_mbf del_mbf snd_mbf rcv_mbf take_oldest cre_mpf del_mpf
      get_mpf rel_mpf tick nobody_runs refusals fields_of compute_kernel compute_world settled arrive store_message Wait
  performs (CreTsk priority) bytes e = performed 0 (placed start _ dormant refl) (omega arith)
  performs (DelTsk task) bytes e = performed 0 (placed start _ absent refl) (omega arith)
  performs (StaTsk task) bytes e = performed 0 (placed start _ ready refl) (omega arith)
  performs ExtTsk bytes e = performed 0 (dormant-counts (begun x) (running k) start) (omega arith)
  performs (TerTsk task) bytes e = performed 0 (dormant-counts (begun x) (number task) start) (omega arith)
  performs (ChgPri task priority) bytes e =
      performed 0 (subst (λ (j : Kernel). Counts (waiting k) 0 (with_kernel (begun x) j)) (sym (rejoin-only _ _)) start) (omega arith)
  performs (CreMtx attribute ceiling) bytes e = performed 0 start (omega arith)
  performs (DelMtx mutex) bytes e = performed 0 (waits_end _ _ E_DLT (queue-waits k listing (queue locking (number mutex)) (omega arith)) start) (omega arith)
  performs (LocMtx mutex timeout) bytes e = by-test (After _) (lock_waits k _) (λ f. begins _ _ _ _ bytes e refl (omega arith)) (λ f. performed 0 start (omega arith))
  performs (UnlMtx mutex) bytes e = performed 0 (release-counts (begun x) (number mutex) start) (omega arith)
  performs (CreMbf attribute bufsz maxmsz) bytes e = performed 0 start (omega arith)
  performs (DelMbf buffer) bytes e =
      let all = queues-wait k listing (queue receiving (number buffer)) (queue sending (number buffer)) (omega arith) (omega arith) in
      performed 0 (waits_end _ _ E_DLT (all (λ e. omega arith)) start) (omega arith)
  performs (SndMbf buffer msgsz timeout) bytes e =
      let q = queue receiving (number buffer) in
      by-test (After _) (not (eqb (queue_front k q) 0))
      (λ f. performed 1 (front_ends (begun x) k q _ (Message _) refl refl (not-true _ f) (omega arith) start) (omega arith))
      (λ f. by-test (After _) (storable k _ _) (λ g. performed 0 start (omega arith)) (λ g. begins _ _ _ _ bytes e refl (omega arith)))
  performs (RcvMbf buffer timeout) bytes e =
      let q = queue sending (number buffer) in
      by-test (After _) (not (eqb (k.buffers.used ! number buffer) 0)) (λ f. performed 0 start (omega arith))
      (λ f. by-test (After _) (not (eqb (queue_front k q) 0))
      (λ g. performed 0 (front_ends (begun x) k q E_OK Nothing refl refl (not-true _ g) (omega arith) start) (omega arith))
      (λ g. begins _ _ _ _ bytes e refl (omega arith)))
  performs (CreMpf attribute count size) bytes e = performed 0 start (omega arith)
  performs (DelMpf pool) bytes e = performed 0 (waits_end _ _ E_DLT (queue-waits k listing (queue getting (number pool)) (omega arith)) start) (omega arith)
  performs (GetMpf pool timeout) bytes e =
      by-test (After _) (eqb (free_block k (number pool)) 0) (λ f. begins _ _ _ _ bytes e refl (omega arith)) (λ f. performed 0 start (omega arith))
  performs (RelMpf pool block) bytes e =
      let q = queue getting (number pool) in
      by-test (λ v. After (RelMpf pool block) (succeeds v)) (eqb (queue_front k q) 0) (λ f. performed 0 start (omega arith))
      (λ f. performed 1 (front_ends (begun x) k q E_OK (Block (number block)) refl refl f (omega arith) start) (omega arith))
  performs Tick bytes e = performed 0 (numbers_keep (Timed (waiting k) 0) tick_task tasks tick-counts (begun x)
      (start, λ t low high h. ⊎_elim (λ idle. absurd (h idle.2)) (λ waits. rw (le-leb locking (k.tasks.place ! t) waits.0)) (valid.is_wait t low high))).0
      (omega arith)
