-- The calls on message buffers keep what holds between acts.
use mathlib.Core.Logic.{⊎_elim}
use Rattle.model.proofs.Terms.{mag, ◌^◌, ◌<◌, ℕ, zero, suc, ◌*◌, ◌-◌, ◌≤◌, ℕ_discrete, arith, ◌≡◌, ◌∙◌, refl, sym, ap, subst, ◌≢◌, inl, inr, Bool, true, false, false≢true, List, [], ◌∷◌, ◌++◌, map, length, take, set-get_or, length-replicate, ℤ, pos, negsuc, le_z, ne_eqb, eqb-false, tasks, buffers, message_bytes, region_bytes, ◌!◌, zeros, sum, joined, E_OK, E_DLT, number, queue, ready_queue, ready, sending, receiving, Kernel, Buffers, with_buffers, with_buffer_exists, with_buffer_attribute, with_bufsz, with_maxmsz, with_used, World, Delivery, Nothing, with_kernel, queue_order, queue_front, heads_queue, running, handed, cost, packed, with_region, millis, end_wait, end_waits, fits, unused, buffer_attributes, storable, send_waits, receive_waits, nobody_runs, bad_attribute, bad_field, bad_number, bad_timeout, no_such, no_time, none_free, cre_mbf_refusals, deletion_refusals, snd_mbf_refusals, rcv_mbf_refusals, refusals, cre_mbf, del_mbf, snd_mbf, take_oldest, rcv_mbf, perform, fields_of, Each, From, Layout}
use Rattle.model.specs.declared.call.Call.TheVariants.{CreMbf, DelMbf, SndMbf, RcvMbf}
use mathlib.Core.Bool.{and-eq-true_iff}
use Rattle.model.proofs.ListLaws.{member-left, member_right}
use Rattle.model.proofs.RefusalLaws.{none-applies, in-range, at_most, allowed, wait-time, unused-free}
use Rattle.model.proofs.ByCase.{send-over, send-stored, send-waits}
use Rattle.message.proofs.Areas.{length-with_region, region-same, region-other, length-with_outbox_message, outbox-other, outbox-behind}
use Rattle.message.proofs.Kept.{layout-clear, layout-remove}
use Rattle.message.proofs.Packing.{length_removed}
use Rattle.message.proofs.Parts.{length-handed}
use Rattle.message.proofs.Regions.{cost-above}
use Rattle.message.proofs.RoomLaws.{fits-within}
use Rattle.queue.proofs.Members.{Stood, front-stood, running-stood, nobody-there}
use Rattle.invariant.specs.Rows.{BufferRow, with_buffer_row, open_world}
use Rattle.invariant.specs.Invariant.{Lasting, Steady}
use Rattle.invariant.proofs.Parts.{buffer-exchanged}
use Rattle.invariant.proofs.Moves.{meets-sender, meets-receiver}
use Rattle.ready.proofs.KeptLaws.{bits-beside}
use Rattle.invariant.proofs.Waits.{priorities-beside, ended, waits_kept, waits-quiet}
use Rattle.invariant.proofs.Ends.{struck-out, strike}
use Rattle.invariant.proofs.Stores.{buffer-there, region-long, region-exchanged, stored}
use Rattle.preservation.proofs.Keeps.{Keeps}
use Rattle.preservation.proofs.Objects.{nobody-awaits, both-started, nobody-left}

-- ---- creation

-- a region in which nothing is used holds no message, whatever the longest may be
layout-none : {a b used : ℕ} {r : List ℕ} → used ≡ 0 → Layout a used r → Layout b used r
layout-none {b = b} {used = used} {r = r} z d = go d.messages d.costs d.bytes
  where
    go : (ms : List (List ℕ)) → sum (map (λ m. cost (length m)) ms) ≡ used → r ≡ joined (map packed ms) ++ zeros (region_bytes - used) → Layout b used r
    go [] c e = record { messages = []; each = λ i h. absurd (omega arith); costs = c; bytes = e }
    go (m ∷ ms) c e = absurd (let x = cost-above (length m) in omega arith)

module _ {w : World} (s : Steady 0 w) where
  abbrev k : Kernel
  k = w.kernel

  pub creates-buffer : (attribute bufsz maxmsz : ℤ) → Keeps w (CreMbf attribute bufsz maxmsz)
  unfolding perform cre_mbf with_kernel with_maxmsz with_bufsz with_buffer_attribute with_buffer_exists with_buffers refusals cre_mbf_refusals bad_attribute bad_field none_free
  creates-buffer attribute bufsz maxmsz bytes fit e =
      let inv = s.invariant in
      let passed = none-applies (refusals k (CreMbf attribute bufsz maxmsz) bytes) e in
      let b = unused k.buffers.exists buffers in
      let free = unused-free k.buffers.exists buffers (eqb-false _ 0 (passed 4)) in
      let r = free.0 in
      let new : BufferRow = record { exists = 1; attribute = number attribute; bufsz = number bufsz; maxmsz = number maxmsz; used = k.buffers.used ! b } in
      let none-used : k.buffers.used ! b ≡ 0 = ⊎_elim (λ g. g.4) (λ g. absurd (omega (arith, g.0, free.1))) (inv.of_buffers.shape b r.0 r.1) in
      record {
        invariant =
            rw (set-get_or k.buffers.used b 0) at
            (buffer-exchanged inv b r.0 r.1 new w.store
            (inr (refl, allowed buffer_attributes attribute (passed 1), at_most region_bytes bufsz (passed 5), in-range message_bytes maxmsz (passed 3), omega arith))
            refl (layout-none none-used (inv.of_buffers.layout b r.0 r.1)) (λ c i d. refl)
            (λ u i j p o. absurd (nobody-awaits k k.buffers.exists sending b free.1 (λ t x y q. (inv.of_buffers.sends t x y q).there) u i j p o))
            (λ u i j p o. absurd (nobody-awaits k k.buffers.exists receiving b free.1 (λ t x y q. (inv.of_buffers.receives t x y q).there) u i j p o)));
        priorities = priorities-beside k _ _ _ _ s.priorities;
        bitmap = bits-beside k _ refl refl refl s.bitmap;
      }

-- ---- deletion

pub deletes-buffer : {w : World} → Steady 0 w → (buffer : ℤ) → Keeps w (DelMbf buffer)
unfolding refusals deletion_refusals bad_number perform del_mbf with_used with_maxmsz with_bufsz with_buffer_attribute with_buffer_exists open_world
deletes-buffer {w} s buffer bytes fit e =
    let b = number buffer in
    let receivers = queue_order w.kernel (queue receiving b) in
    let senders = queue_order w.kernel (queue sending b) in
    let full : length (zeros region_bytes) ≡ region_bytes = rw length-replicate in
    let r = in-range buffers buffer (none-applies (refusals w.kernel (DelMbf buffer) bytes) e 1) in
    let row : BufferRow = record { exists = 0; attribute = 0; bufsz = 0; maxmsz = 0; used = 0 } in
    let gone : Buffers → Buffers = λ x. with_buffer_row x b row in
    let cleared : List ℕ → List ℕ = λ store. with_region b store (zeros region_bytes) in
    let struck : World → World = strike (λ x. x) gone (λ x. x) cleared in
    struck-out (λ x. x) gone (λ x. x) cleared E_DLT (receivers ++ senders) w (struck w) refl (priorities-beside w.kernel _ _ _ _ s.priorities)
    (bits-beside w.kernel _ refl refl refl s.bitmap) refl s
    (both-started s (queue receiving b) (queue sending b) (omega arith) (omega arith))
    (λ left.
    let x = left.steady.invariant in
    let long : b * region_bytes ≤ length (end_waits w (receivers ++ senders) E_DLT).store = omega (arith, x.of_buffers.size, r.1) in
    buffer-exchanged x b r.0 r.1 row _ (inl (refl, refl, refl, refl, refl)) (length-with_region b _ (zeros region_bytes))
    (subst (Layout 0 0) (sym (region-same b _ (zeros region_bytes) r.0 long full)) (layout-clear 0)) (region-other b _ (zeros region_bytes) r.0 long full)
    (λ u i j p o. absurd (nobody-left s (queue sending b) (omega arith) left (λ t. member_right t receivers senders) u i j p o))
    (λ u i j p o. absurd (nobody-left s (queue receiving b) (omega arith) left (λ t. member-left t receivers senders) u i j p o)))

-- ---- send and receive

-- a wait's time, where the call would wait
abbrev Timed : Bool → ℤ → Type 0
Timed waits timeout = waits ≡ true → Lasting (millis timeout)

module _ {w : World} (s : Steady 0 w) (b : ℕ) (low : 1 ≤ b) (high : b ≤ buffers) (there : w.kernel.buffers.exists ! b ≢ 0) (runs : running w.kernel ≢ 0) (timeout : ℤ) where
  abbrev now : Kernel
  now = w.kernel

  abbrev t : ℕ
  t = running now

  caller : Stood now ready_queue t
  caller = running-stood now runs

  nobody : (place : ℕ) → ready ≤ place → queue_front now (queue place b) ≡ 0 → Each tasks (λ u. now.tasks.place ! u ≡ place → now.tasks.object ! u ≢ b)
  nobody place h = nobody-there now s.invariant.of_tasks.listing (queue place b) h

  -- whose turn it is in a queue there: its wait ends
  served : (place : ℕ) → ready ≤ place → queue_front now (queue place b) ≢ 0 → (c : ℤ) (d : Delivery) → Steady 0 (end_wait w (queue_front now (queue place b)) c d)
  served place h n c d = let f = front-stood now (queue place b) n in ended s _ f.low f.high c d (omega (arith, f.place))

  module _ (m : List ℕ) (sized : From 1 (now.buffers.maxmsz ! b) (length m)) (time : Timed (send_waits now b (length m)) timeout) where
    sent : Dec (queue_front now (queue receiving b) ≡ 0) → (x : Bool) → storable now b (length m) ≡ x → Steady 0 (snd_mbf w b m timeout).world
    unfolding send_waits storable
    sent (no n) x e = rw (send-over w b m timeout refl n) (served receiving (omega arith) n _ _)
    sent (yes z) true e =
        let room = fits-within now b (length m) ((and-eq-true_iff (heads_queue now (queue sending b) t) (fits now b (length m))).0 e).1 in
        rw (send-stored w b m timeout z e) (stored s b low high m there sized room (nobody receiving (omega arith) z))
    sent (yes z) false e =
        let known = buffer-there s.invariant b low high there in
        let long : t * message_bytes ≤ length w.outbox = omega (arith, caller.high, s.invariant.of_tasks.size) in
        rw (send-waits w b m timeout z e)
        (waits_kept s t caller.low caller.high (queue sending b) (length m) timeout caller.place (omega arith, omega arith)
        (meets-sender now t b (length m) (record { there = known.there; sized = sized }) (λ u i j p o. nobody receiving (omega arith) z u i j p (sym o)))
        (time (rw (z, e))) (λ d. absurd (d refl))
        (record { size = length-with_outbox_message t w.outbox m; other = outbox-other t w.outbox m caller.low long })
        (outbox-behind t w.outbox m caller.low long (omega (arith, sized, known.longest))))

  taken : now.buffers.used ! b ≢ 0 → Steady 0 (take_oldest w b)
  unfolding take_oldest with_used with_buffers open_world
  taken n =
      let known = buffer-there s.invariant b low high there in
      let r = layout-remove (omega (arith, known.longest)) (omega (arith, known.size, known.room)) n (s.invariant.of_buffers.layout b low high) in
      record {
        invariant =
            region-exchanged s.invariant b low high _ _ there (omega (arith, known.room)) (length_removed _ ∙ region-long s.invariant b low high) r.layout
            (λ u i j p o. n (ap (λ (c : ℕ). now.buffers.used ! c) (sym o) ∙ (s.invariant.of_buffers.receives u i j p).empty));
        priorities = priorities-beside now _ _ _ _ s.priorities;
        bitmap = bits-beside now _ refl refl refl s.bitmap;
      }

  received : Timed (receive_waits now b) timeout → Dec (now.buffers.used ! b ≡ 0) → Dec (queue_front now (queue sending b) ≡ 0) → Steady 0 (rcv_mbf w b timeout).world
  unfolding rcv_mbf receive_waits
  received time (no n) d = rw (ne_eqb _ 0 n) (taken n)
  received time (yes z) (no n) = rw (z, ne_eqb _ 0 n) (served sending (omega arith) n E_OK Nothing)
  received time (yes z) (yes y) =
      rw (z, y)
      (waits-quiet s t caller.low caller.high (queue receiving b) 0 timeout refl caller.place (omega arith, omega arith)
      (meets-receiver now t b (record { there = (buffer-there s.invariant b low high there).there; empty = z }) (nobody sending (omega arith) y))
      (time (rw (z, y))))

module _ {w : World} (s : Steady 0 w) where
  pub sends-message : (buffer msgsz timeout : ℤ) → Keeps w (SndMbf buffer msgsz timeout)
  unfolding perform refusals snd_mbf_refusals nobody_runs bad_timeout bad_number no_such no_time fields_of
  sends-message buffer msgsz timeout bytes fit e =
      let passed = none-applies (refusals w.kernel (SndMbf buffer msgsz timeout) bytes) e in
      let fits : mag timeout < 2 ^ 31 = fit.1.1.0 in
      let n = in-range buffers buffer (passed 4) in
      let there = eqb-false _ 0 (passed 5) in
      let known = buffer-there s.invariant (number buffer) n.0 n.1 there in
      let size : From 1 (w.kernel.buffers.maxmsz ! number buffer) (number msgsz) = (positive msgsz (passed 2), at_most _ msgsz (passed 6)) in
      let long : length (take (number msgsz) (handed bytes)) ≡ number msgsz = length-handed (number msgsz) bytes (omega (arith, size, known.longest)) in
      sent s (number buffer) n.0 n.1 there (eqb-false _ 0 (passed 0)) timeout (take (number msgsz) (handed bytes)) (rw long size)
      (rw long (wait-time timeout _ fits (passed 7))) (ℕ_discrete _ 0) _ refl
    where
      positive : (n : ℤ) → le_z n (pos 0) ≡ false → 1 ≤ number n
      positive (pos zero) q = absurd (false≢true (sym q))
      positive (pos (suc n)) q = omega arith
      positive (negsuc n) q = absurd (false≢true (sym q))

  pub receives-message : (buffer timeout : ℤ) → Keeps w (RcvMbf buffer timeout)
  unfolding perform refusals rcv_mbf_refusals nobody_runs bad_timeout bad_number no_such no_time fields_of
  receives-message buffer timeout bytes fit e =
      let passed = none-applies (refusals w.kernel (RcvMbf buffer timeout) bytes) e in
      let n = in-range buffers buffer (passed 2) in
      received s (number buffer) n.0 n.1 (eqb-false _ 0 (passed 3)) (eqb-false _ 0 (passed 0)) timeout (wait-time timeout _ fit.1.0 (passed 4)) (ℕ_discrete _ 0) (ℕ_discrete _ 0)
