-- 01, "Effects": what each call does once no refusal applies.
use Rattle.std.specs.Prelude.{ℕ, ◌-◌, pred, Bool, ◌&&◌, ◌||◌, not, cond, length, take, ℤ, pos, eqb}
use mathlib.Core.List.{List, ◌++◌, foldl}
use Rattle.model.specs.declared.call.Call.{Call}
use Rattle.model.specs.declared.call.Call.TheVariants.{CreTsk, DelTsk, StaTsk, ExtTsk, TerTsk, ChgPri, CreMtx, DelMtx, LocMtx, UnlMtx, CreMbf, DelMbf, SndMbf, RcvMbf, CreMpf, DelMpf, GetMpf, RelMpf, Tick}
use Rattle.model.specs.declared.call.Answer.{Answer}
use Rattle.model.specs.declared.call.Answer.TheVariants.{Code, Waits, Exits}
use Rattle.model.specs.Sizes.{tasks, mutexes, buffers, pools, blocks, region_bytes, endless}
use Rattle.model.specs.Lists.{◌!◌, up_to, zeros}
use Rattle.model.specs.Code.{E_OK, E_DLT, E_TMOUT, number}
use Rattle.model.specs.Facts.{queue, ready_queue, absent, dormant, locking, sending, receiving, getting, ceilinged}
use Rattle.model.specs.Queue.{by_priority}
use Rattle.model.specs.Kernel.{Kernel, with_arrivals, with_place, with_initial, with_base, with_current, with_left, with_mutex_exists, with_mutex_attribute, with_ceiling, with_holder, with_buffer_exists, with_buffer_attribute, with_bufsz, with_maxmsz, with_used, with_pool_exists, with_pool_attribute, with_count, with_size, with_taken, slot, arrived, facts}
use Rattle.model.specs.World.{World, Delivery, Nothing, Message, Block, with_kernel, with_store, with_outbox, queue_order, queue_front, running, recompute}
use Rattle.model.specs.Message.{handed, cost, oldest_length, oldest, removed, region, with_region, with_outbox_message}
use Rattle.model.specs.Act.{arrive, settled, wait, end_wait, end_waits, release, become_dormant, store_message, senders_message, drain, unused}
use Rattle.model.specs.Refusal.{chosen_task, chosen_base, lock_waits, storable, free_block}

-- What a call comes to: its answer, what that delivers to the caller, and the world after it.
pub record Done : Type 0 where
  pub answer : Answer
  pub delivery : Delivery
  pub world : World

abbrev pub answered : ℤ → Delivery → World → Done
answered c d w = record { answer = Code c; delivery = d; world = w }

-- "Creations answer the new number, receives the length, other successes 0."
abbrev pub succeeds : World → Done
succeeds w = answered E_OK Nothing w

abbrev pub waits : World → Done
waits w = record { answer = Waits; delivery = Nothing; world = w }

-- ---- tasks

-- "Base becomes the initial priority at creation"; "a task dormant"
unfoldable pub cre_tsk : World → ℕ → Done
cre_tsk w p =
    let n = unused w.kernel.tasks.place tasks in
    answered (pos n) Nothing
    (with_kernel w (with_current (with_base (with_initial (with_place w.kernel n dormant) n p) n p) n p))

unfoldable pub del_tsk : World → ℕ → Done
del_tsk w t =
    succeeds (with_kernel w (with_current (with_base (with_initial (with_place w.kernel t absent) t 0) t 0) t 0))

unfoldable pub sta_tsk : World → ℕ → Done
sta_tsk w t = succeeds (with_kernel w (arrive w.kernel t ready_queue))

unfoldable pub ext_tsk : World → Done
ext_tsk w = record { answer = Exits; delivery = Nothing; world = become_dormant w (running w.kernel) }

unfoldable pub ter_tsk : World → ℕ → Done
ter_tsk w t = succeeds (become_dormant w t)

-- "chg_pri counts as joining anew, except in lines by joining only"; by 02, request Five, "only if current and base priority are
-- equal afterwards; a task kept up by a mutex keeps its joining". A dormant task stands in no queue.
unfoldable pub arrives_anew : Kernel → ℕ → Bool
arrives_anew k t =
    by_priority (facts k) (queue (k.tasks.place ! t) (k.tasks.object ! t)) && eqb (k.tasks.current ! t) (k.tasks.base ! t)

unfoldable pub rejoin : Kernel → ℕ → Kernel
rejoin k t = cond (arrives_anew k t) (with_arrivals k (arrived t k.arrivals)) k

-- "afterwards": the base is set and priorities are settled before the two are compared
unfoldable pub chg_pri : World → ℕ → ℤ → Done
chg_pri w t p =
    succeeds (with_kernel w (rejoin (recompute (with_base w.kernel t (chosen_base w.kernel t p))) t))

-- ---- mutexes

-- "with attributes 0 to 2 any ceiling is ignored and kept as 0"
unfoldable pub cre_mtx : World → ℕ → ℤ → Done
cre_mtx w a c =
    let n = unused w.kernel.mutexes.exists mutexes in
    answered (pos n) Nothing
    (with_kernel w
    (with_ceiling (with_mutex_attribute (with_mutex_exists w.kernel n 1) n a) n (cond (eqb a ceilinged) (number c) 0)))

-- "waits there end with -51 E_DLT in the line order that stood when the call began [..] a holder loses the mutex"
unfoldable pub del_mtx : World → ℕ → Done
del_mtx w m =
    let k = with_holder (with_ceiling (with_mutex_attribute (with_mutex_exists w.kernel m 0) m 0) m 0) m 0 in
    succeeds (end_waits (settled (with_kernel w k)) (queue_order w.kernel (queue locking m)) E_DLT)

-- "Lock: a free mutex is taken, else the caller waits."
unfoldable pub loc_mtx : World → ℕ → ℤ → Done
loc_mtx w m timeout =
    let t = running w.kernel in
    cond (lock_waits w.kernel m)
    (waits (wait w t (queue locking m) 0 timeout))
    (succeeds (settled (with_kernel w (with_holder w.kernel m t))))

unfoldable pub unl_mtx : World → ℕ → Done
unl_mtx w m = succeeds (release w m)

-- ---- message buffers

unfoldable pub cre_mbf : World → ℕ → ℕ → ℕ → Done
cre_mbf w a bufsz maxmsz =
    let n = unused w.kernel.buffers.exists buffers in
    answered (pos n) Nothing
    (with_kernel w (with_maxmsz (with_bufsz (with_buffer_attribute (with_buffer_exists w.kernel n 1) n a) n bufsz) n maxmsz))

-- "receivers before senders; stored messages vanish"
unfoldable pub del_mbf : World → ℕ → Done
del_mbf w b =
    let k = with_buffer_attribute (with_buffer_exists w.kernel b 0) b 0 in
    let v = with_store (with_kernel w (with_used (with_maxmsz (with_bufsz k b 0) b 0) b 0)) (with_region b w.store (zeros region_bytes)) in
    succeeds
    (end_waits v (queue_order w.kernel (queue receiving b) ++ queue_order w.kernel (queue sending b)) E_DLT)

-- "Send: to the first receiver; else, if the caller would head the senders and it fits, stored; else wait." "A waiting
-- sender's bytes lie at the start of its part of the bay."
unfoldable pub snd_mbf : World → ℕ → List ℕ → ℤ → Done
snd_mbf w b m timeout =
    let r = queue_front w.kernel (queue receiving b) in
    let t = running w.kernel in
    cond (not (eqb r 0)) (succeeds (end_wait w r (pos (length m)) (Message m)))
    (cond (storable w.kernel b (length m)) (succeeds (store_message w b m))
    (waits (wait (with_outbox w (with_outbox_message t w.outbox m)) t (queue sending b) (length m) timeout)))

-- the oldest stored message leaves its buffer
unfoldable pub take_oldest : World → ℕ → World
take_oldest w b =
    let r = region b w.store in
    with_store (with_kernel w (with_used w.kernel b (w.kernel.buffers.used ! b - cost (oldest_length r))))
    (with_region b w.store (removed r))

-- "Receive: the oldest stored message, else the first sender's, else wait."
unfoldable pub rcv_mbf : World → ℕ → ℤ → Done
rcv_mbf w b timeout =
    let r = region b w.store in
    let s = queue_front w.kernel (queue sending b) in
    let m = senders_message w s in
    cond (not (eqb (w.kernel.buffers.used ! b) 0))
    (answered (pos (oldest_length r)) (Message (oldest r)) (take_oldest w b))
    (cond (not (eqb s 0)) (answered (pos (length m)) (Message m) (end_wait w s E_OK Nothing))
    (waits (wait w (running w.kernel) (queue receiving b) 0 timeout)))

-- ---- fixed pools

unfoldable pub cre_mpf : World → ℕ → ℕ → ℕ → Done
cre_mpf w a count size =
    let n = unused w.kernel.pools.exists pools in
    answered (pos n) Nothing
    (with_kernel w (with_size (with_count (with_pool_attribute (with_pool_exists w.kernel n 1) n a) n count) n size))

unfoldable pub del_mpf : World → ℕ → Done
del_mpf w p =
    let k = with_size (with_count (with_pool_attribute (with_pool_exists w.kernel p 0) p 0) p 0) p 0 in
    succeeds
    (end_waits (with_kernel w (foldl (λ j b. with_taken j (slot p b) 0) k (up_to blocks)))
    (queue_order w.kernel (queue getting p))
    E_DLT)

-- "Get: the smallest free block, counted from 1, else wait."
unfoldable pub get_mpf : World → ℕ → ℤ → Done
get_mpf w p timeout =
    let b = free_block w.kernel p in
    cond (eqb b 0)
    (waits (wait w (running w.kernel) (queue getting p) 0 timeout))
    (answered E_OK (Block b) (with_kernel w (with_taken w.kernel (slot p b) 1)))

-- "A returned block goes to the first waiter; any task may return it."
unfoldable pub rel_mpf : World → ℕ → ℕ → Done
rel_mpf w p b =
    let t = queue_front w.kernel (queue getting p) in
    succeeds (cond (eqb t 0) (with_kernel w (with_taken w.kernel (slot p b) 0)) (end_wait w t E_OK (Block b)))

-- ---- time

-- a millisecond passes for one task: without a wait, or with one that has no end, nothing changes
unfoldable pub tick_task : World → ℕ → World
tick_task w t =
    let n = w.kernel.tasks.left ! t in
    cond (eqb n 0 || eqb n endless) w
    (cond (eqb n 1) (end_wait w t E_TMOUT Nothing) (with_kernel w (with_left w.kernel t (pred n))))

-- "ends with -50 in the nth tick after it began [..] several in task order"
unfoldable pub tick : World → Done
tick w = succeeds (foldl tick_task w (up_to tasks))

-- ---- the call

-- "Only the first msgsz of the 32 bytes count": by 02, request Two, the others are zeros, or the call is refused
unfoldable pub perform : World → Call → List ℕ → Done
perform w (CreTsk priority) bytes = cre_tsk w (number priority)
perform w (DelTsk task) bytes = del_tsk w (number task)
perform w (StaTsk task) bytes = sta_tsk w (number task)
perform w ExtTsk bytes = ext_tsk w
perform w (TerTsk task) bytes = ter_tsk w (number task)
perform w (ChgPri task priority) bytes = chg_pri w (chosen_task w.kernel task) priority
perform w (CreMtx attribute ceiling) bytes = cre_mtx w (number attribute) ceiling
perform w (DelMtx mutex) bytes = del_mtx w (number mutex)
perform w (LocMtx mutex timeout) bytes = loc_mtx w (number mutex) timeout
perform w (UnlMtx mutex) bytes = unl_mtx w (number mutex)
perform w (CreMbf attribute bufsz maxmsz) bytes = cre_mbf w (number attribute) (number bufsz) (number maxmsz)
perform w (DelMbf buffer) bytes = del_mbf w (number buffer)
perform w (SndMbf buffer msgsz timeout) bytes = snd_mbf w (number buffer) (take (number msgsz) (handed bytes)) timeout
perform w (RcvMbf buffer timeout) bytes = rcv_mbf w (number buffer) timeout
perform w (CreMpf attribute count size) bytes = cre_mpf w (number attribute) (number count) (number size)
perform w (DelMpf pool) bytes = del_mpf w (number pool)
perform w (GetMpf pool timeout) bytes = get_mpf w (number pool) timeout
perform w (RelMpf pool block) bytes = rel_mpf w (number pool) (number block)
perform w Tick bytes = tick w

-- "Last in each call": the send queues are drained.
unfoldable pub effect : World → Call → List ℕ → Done
effect w c bytes =
    let d = perform w c bytes in
    record { answer = d.answer; delivery = d.delivery; world = drain d.world }

-- what has to unfold for the definitions of this file to compute
unfoldable pub compute_effect : Unit {0}
unfolding cre_tsk del_tsk sta_tsk ext_tsk ter_tsk arrives_anew rejoin chg_pri cre_mtx del_mtx loc_mtx unl_mtx cre_mbf del_mbf snd_mbf take_oldest rcv_mbf
    cre_mpf del_mpf get_mpf rel_mpf tick_task tick perform effect
compute_effect = tt
