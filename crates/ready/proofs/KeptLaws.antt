-- Every act and every call keeps the bits right: an arrival and the settling of priorities renew them, a task that becomes dormant is followed by a settling at
-- once, and nothing else changes who is ready or at which priority. Assumes nothing.
use Rattle.model.proofs.Terms.{ℕ, zero, suc, pred, dec_le, ℕ_discrete, arith, ◌≡◌, ◌∙◌, refl, sym, ap₂, fun_ext, ◌≢◌, Bool, true, false, ◌&&◌, not, cond, none, List, [], ◌∷◌, map, foldl, set, get_or-set_other, set_out, take, length, ℤ, pos, eqb, ne_eqb, eqb-true, eqb-false, not-false, tasks, priorities, mutexes, buffers, blocks, ◌!◌, up_to, any, E_OK, E_DLT, E_TMOUT, number, ready, dormant, absent, endless, ready_queue, queue, Queue, locking, receiving, sending, getting, ready_at, ready_bitmap, Kernel, numbered, facts, slot, with_place, with_initial, with_base, with_current, with_holder, with_argument, with_left, with_arrivals, with_pool_exists, with_pool_attribute, with_count, with_size, with_taken, arrived, World, Delivery, Nothing, Message, Block, with_kernel, with_outbox, with_ended, queue_front, queue_order, running, recompute, recompute_if, settled, arrive, millis, wait, leave_kernel, leave, end_wait, end_waits, release, release_all, become_dormant, handed, store_message, store_first, senders_message, first_fits, serve, with_store, drain, unused, first_refusal, refusals, cre_tsk_refusals, none_free, dormant_refusals, lock_waits, storable, free_block, Done, cre_tsk, del_tsk, sta_tsk, ext_tsk, ter_tsk, arrives_anew, rejoin, chg_pri, cre_mtx, del_mtx, loc_mtx, unl_mtx, cre_mbf, del_mbf, snd_mbf, take_oldest, rcv_mbf, cre_mpf, del_mpf, get_mpf, rel_mpf, tick_task, tick, perform, effect, Bitmap}
use mathlib.Core.Bool.{◌||◌}
use Rattle.model.specs.declared.call.Call.{Call}
use Rattle.model.specs.declared.call.Call.TheVariants.{CreTsk, DelTsk, StaTsk, ExtTsk, TerTsk, ChgPri, CreMtx, DelMtx, LocMtx, UnlMtx, CreMbf, DelMbf, SndMbf, RcvMbf, CreMpf, DelMpf, GetMpf, RelMpf, Tick}
use Rattle.model.specs.Kernel.{compute_kernel}
use Rattle.model.specs.Bits.{word_of}
use Rattle.model.proofs.Folds.{serve-keeps}
use Rattle.model.proofs.ListLaws.{either}
use Rattle.model.proofs.NumberLaws.{numbered-at, numbered-not, numbered-other, numbered-same}
use Rattle.model.proofs.RefusalLaws.{none-applies, unused-free}
use Rattle.ready.specs.Statements.{CallsKeepBits}
use Rattle.ready.proofs.ReadyLaws.{fresh-bits-right, arrival-bitmap}

-- ---- what the bits look at

-- places and current priorities, and nothing else
pub bits-beside : (k j : Kernel) → j.bitmap ≡ k.bitmap → j.tasks.place ≡ k.tasks.place → j.tasks.current ≡ k.tasks.current → Bitmap k → Bitmap j
unfolding Bitmap ready_bitmap ready_at facts
bits-beside k j b p c right =
    b ∙ right
    ∙ ap₂ (λ (places currents : List ℕ). word_of (map (λ q. any (λ t. eqb (numbered places ! t) ready && eqb (currents ! t) q) (up_to tasks)) (up_to priorities)) ∷ [])
    (sym p) (sym c)

-- a task that is not ready before and after may have any priority
unready : (places : List ℕ) (t v : ℕ) → v ≢ ready → places ! t ≢ ready → numbered (set places t v) ! t ≢ ready
unready places zero v d e = λ (z : 0 ≡ ready). omega arith
unready places (suc t) v d e =
    elim (dec_le (suc (suc t)) (length places)) [
      | yes h ↦ λ z. d (sym (numbered-same places (suc t) v (omega arith) h) ∙ z)
      | no n ↦ λ z. e (sym (numbered-at places (suc t) (omega arith)) ∙ rw (set_out places (suc t) v (omega arith)) at z)
    ]

module _ (k : Kernel) (t place p : ℕ) (is : place ≢ ready) (was : k.tasks.place ! t ≢ ready) where
  abbrev renumbered : Kernel
  renumbered = with_current (with_base (with_initial (with_place k t place) t p) t p) t p

  same-ready : (q u : ℕ) → eqb (numbered k.tasks.place ! u) ready && eqb (k.tasks.current ! u) q
      ≡ eqb (numbered (set k.tasks.place t place) ! u) ready && eqb (set k.tasks.current t p ! u) q
  same-ready q u =
      elim (ℕ_discrete u t) [
        | yes e ↦
            rw (e, ne_eqb (numbered k.tasks.place ! t) ready (numbered-not k.tasks.place t 1 was), ne_eqb (numbered (set k.tasks.place t place) ! t) ready (unready k.tasks.place t place is was))
        | no d ↦ rw (numbered-other k.tasks.place t place u d, get_or-set_other k.tasks.current t u p 0 d)
      ]

  pub unready-kept : Bitmap k → Bitmap renumbered
  unfolding Bitmap ready_bitmap ready_at compute_kernel
  unready-kept right =
      right ∙ ap₂ (λ (f : ℕ → ℕ → Bool) (xs : List ℕ). word_of (map (λ q. any (f q) (up_to tasks)) (up_to priorities)) ∷ xs) (fun_ext (λ q. fun_ext (same-ready q))) refl

-- ---- acts, on any world whose bits are right

abbrev pub Right : World → Type 0
Right w = Bitmap w.kernel

pub bits-recomputed : (k : Kernel) → Bitmap (recompute k)
unfolding recompute
bits-recomputed k = fresh-bits-right _

recomputed-if : (b : Bool) (k : Kernel) → Bitmap k → Bitmap (recompute_if b k)
unfolding recompute_if
recomputed-if true k h = bits-recomputed k
recomputed-if false k h = h

-- what each turn keeps, all of them keep
each_turn : {A : Type 0} (f : World → A → World) → ((w : World) (a : A) → Right w → Right (f w a)) → (xs : List A) (w : World) → Right w → Right (foldl f w xs)
each_turn f turn [] w h = h
each_turn f turn (x ∷ xs) w h = each_turn f turn xs (f w x) (turn w x h)

pub begun-right : (k : Kernel) (t argument left : ℕ) → Bitmap k → Bitmap (with_left (with_argument k t argument) t left)
unfolding compute_kernel
begun-right k t argument left = bits-beside k (with_left (with_argument k t argument) t left) refl refl refl

wait-right : (w : World) (t : ℕ) (q : Queue) (argument : ℕ) (timeout : ℤ) → Right w → Right (wait w t q argument timeout)
unfolding wait with_kernel
wait-right w t q argument timeout h =
    recomputed-if _ _ (begun-right (arrive w.kernel t q) t argument (millis timeout) (arrival-bitmap w.kernel t q h))

leave-right : (k : Kernel) (t : ℕ) → Bitmap k → Bitmap (leave_kernel k t)
unfolding leave_kernel compute_kernel
leave-right k t = bits-beside k (leave_kernel k t) refl refl refl

pub end-right : (w : World) (t : ℕ) (c : ℤ) (d : Delivery) → Right w → Right (end_wait w t c d)
unfolding end_wait leave with_kernel with_outbox with_ended
end-right w t c d h = recomputed-if _ _ (arrival-bitmap (leave_kernel w.kernel t) t ready_queue (leave-right w.kernel t h))

pub ends-right : (w : World) (ts : List ℕ) (c : ℤ) → Right w → Right (end_waits w ts c)
unfolding end_waits
ends-right w ts c = each_turn (λ v t. end_wait v t c Nothing) (λ v t. end-right v t c Nothing) ts w

holder-right : (k : Kernel) (m t : ℕ) → Bitmap k → Bitmap (with_holder k m t)
unfolding compute_kernel
holder-right k m t = bits-beside k (with_holder k m t) refl refl refl

release-right : (w : World) (m : ℕ) → Right w → Right (release w m)
unfolding release settled with_kernel
release-right w m h =
    let t = queue_front w.kernel (queue locking m) in
    either Right (eqb t 0) (bits-recomputed _) (end-right _ t E_OK Nothing (holder-right w.kernel m t h))

releases-right : (w : World) (t : ℕ) → Right w → Right (release_all w t)
unfolding release_all
releases-right w t =
    each_turn (λ v m. cond (eqb (v.kernel.mutexes.holder ! m) t) (release v m) v)
    (λ v m h. either Right (eqb (v.kernel.mutexes.holder ! m) t) {x = release v m} {y = v} (release-right v m h) h) (up_to mutexes) w

dormant-right : (w : World) (t : ℕ) → Right (become_dormant w t)
unfolding become_dormant settled with_kernel
dormant-right w t = releases-right _ t (bits-recomputed _)

store-right : (w : World) (b : ℕ) (m : List ℕ) → Right w → Right (store_message w b m)
unfolding store_message with_kernel with_store compute_kernel
store-right w b m = bits-beside w.kernel _ refl refl refl

drain-right : (w : World) → Right w → Right (drain w)
unfolding drain store_first
drain-right w =
    each_turn (λ v b. serve tasks (λ u. first_fits u.kernel b) (λ u. store_first u b) v)
    (λ v b. serve-keeps Right (λ u. first_fits u.kernel b) (λ u. store_first u b)
    (λ u e h.
    let t = queue_front u.kernel (queue sending b) in
    let m = senders_message u t in
    end-right (store_message u b m) t E_OK Nothing (store-right u b m h)) tasks v)
    (up_to buffers) w

-- ---- calls

rejoin-right : (k : Kernel) (t : ℕ) → Bitmap k → Bitmap (rejoin k t)
unfolding rejoin compute_kernel
rejoin-right k t h = either Bitmap (arrives_anew k t) (bits-beside k (with_arrivals k (arrived t k.arrivals)) refl refl refl h) h

-- a task is created at a number that is unused, and a dormant one deleted
created-unready : (k : Kernel) (priority : ℤ) (bytes : List ℕ) → first_refusal (refusals k (CreTsk priority) bytes) ≡ none → k.tasks.place ! unused k.tasks.place tasks ≢ ready
unfolding refusals cre_tsk_refusals none_free
created-unready k priority bytes e =
    λ (z : k.tasks.place ! unused k.tasks.place tasks ≡ ready).
    omega (arith, (unused-free k.tasks.place tasks (eqb-false _ 0 (none-applies (refusals k (CreTsk priority) bytes) e 2))).1)

deleted-unready : (k : Kernel) (task : ℤ) (bytes : List ℕ) → first_refusal (refusals k (DelTsk task) bytes) ≡ none → k.tasks.place ! number task ≢ ready
unfolding refusals dormant_refusals
deleted-unready k task bytes e =
    λ (z : k.tasks.place ! number task ≡ ready).
    omega (arith, eqb-true (k.tasks.place ! number task) dormant (not-false _ (none-applies (refusals k (DelTsk task) bytes) e 3)))

tick-right : (w : World) (t : ℕ) → Right w → Right (tick_task w t)
unfolding tick_task with_kernel compute_kernel
tick-right w t h =
    let n = w.kernel.tasks.left ! t in
    either Right (eqb n 0 || eqb n endless) h
    (either Right (eqb n 1) (end-right w t E_TMOUT Nothing h) (bits-beside w.kernel (with_left w.kernel t (pred n)) refl refl refl h))

flags-right : (p : ℕ) (bs : List ℕ) (k : Kernel) → Bitmap k → Bitmap (foldl (λ j b. with_taken j (slot p b) 0) k bs)
unfolding compute_kernel
flags-right p [] k h = h
flags-right p (b ∷ bs) k h = flags-right p bs (with_taken k (slot p b) 0) (bits-beside k (with_taken k (slot p b) 0) refl refl refl h)

abbrev Does : Done → Type 0
Does d = Right d.world

module _ (w : World) (right : Right w) where
  abbrev k : Kernel
  k = w.kernel

  performed : (c : Call) (bytes : List ℕ) → first_refusal (refusals k c bytes) ≡ none → Does (perform w c bytes)
  unfolding perform cre_tsk del_tsk sta_tsk ext_tsk ter_tsk chg_pri cre_mtx del_mtx loc_mtx unl_mtx cre_mbf del_mbf snd_mbf take_oldest rcv_mbf cre_mpf del_mpf get_mpf rel_mpf tick settled with_kernel with_store with_outbox compute_kernel
  performed (CreTsk priority) bytes e =
      unready-kept k (unused k.tasks.place tasks) dormant (number priority) (λ (z : dormant ≡ ready). omega arith) (created-unready k priority bytes e) right
  performed (DelTsk task) bytes e = unready-kept k (number task) absent 0 (λ (z : absent ≡ ready). omega arith) (deleted-unready k task bytes e) right
  performed (StaTsk task) bytes e = arrival-bitmap k (number task) ready_queue right
  performed ExtTsk bytes e = dormant-right w (running k)
  performed (TerTsk task) bytes e = dormant-right w (number task)
  performed (ChgPri task priority) bytes e = rejoin-right _ _ (bits-recomputed _)
  performed (CreMtx attribute ceiling) bytes e = bits-beside k _ refl refl refl right
  performed (DelMtx mutex) bytes e = ends-right _ _ E_DLT (bits-recomputed _)
  performed (LocMtx mutex timeout) bytes e =
      either Does (lock_waits k (number mutex)) (wait-right w (running k) (queue locking (number mutex)) 0 timeout right) (bits-recomputed _)
  performed (UnlMtx mutex) bytes e = release-right w (number mutex) right
  performed (CreMbf attribute bufsz maxmsz) bytes e = bits-beside k _ refl refl refl right
  performed (DelMbf buffer) bytes e = ends-right _ _ E_DLT (bits-beside k _ refl refl refl right)
  performed (SndMbf buffer msgsz timeout) bytes e =
      let b = number buffer in
      let m = take (number msgsz) (handed bytes) in
      let r = queue_front k (queue receiving b) in
      either Does (not (eqb r 0)) (end-right w r (pos (length m)) (Message m) right)
      (either Does (storable k b (length m)) (store-right w b m right) (wait-right _ (running k) (queue sending b) (length m) timeout right))
  performed (RcvMbf buffer timeout) bytes e =
      let b = number buffer in
      let s = queue_front k (queue sending b) in
      either Does (not (eqb (k.buffers.used ! b) 0)) (bits-beside k _ refl refl refl right)
      (either Does (not (eqb s 0)) (end-right w s E_OK Nothing right) (wait-right w (running k) (queue receiving b) 0 timeout right))
  performed (CreMpf attribute count size) bytes e = bits-beside k _ refl refl refl right
  performed (DelMpf pool) bytes e =
      let p = number pool in
      let j = with_size (with_count (with_pool_attribute (with_pool_exists k p 0) p 0) p 0) p 0 in
      ends-right (with_kernel w (foldl (λ i b. with_taken i (slot p b) 0) j (up_to blocks))) (queue_order k (queue getting p)) E_DLT
      (flags-right p (up_to blocks) j (bits-beside k j refl refl refl right))
  performed (GetMpf pool timeout) bytes e =
      either Does (eqb (free_block k (number pool)) 0) (wait-right w (running k) (queue getting (number pool)) 0 timeout right) (bits-beside k _ refl refl refl right)
  performed (RelMpf pool block) bytes e =
      let t = queue_front k (queue getting (number pool)) in
      either Right (eqb t 0) (bits-beside k _ refl refl refl right) (end-right w t E_OK (Block (number block)) right)
  performed Tick bytes e = each_turn tick_task tick-right (up_to tasks) w right

-- so a call that nothing refuses keeps the bits right
pub calls-keep-bits : CallsKeepBits
unfolding effect
calls-keep-bits w c bytes right e = drain-right _ (performed w right c bytes e)
