-- A wait begins, and a wait ends: what holds between acts holds after them.
use Rattle.model.proofs.Terms.{ℕ, ◌*◌, ◌-◌, ◌≤◌, ◌<◌, ℕ_discrete, arith, ◌≡◌, ◌∙◌, refl, sym, ap, subst, ◌≢◌, ◌⊎◌, inl, inr, List, [], drop, length, set, set-get_or, set-set, eq-eqb, ne_eqb, tasks, message_bytes, ◌!◌, zeros, Queue, queue, ready_queue, dormant, ready, locking, sending, getting, Kernel, numbered, Buffers, Pools, with_argument, with_left, arrived, facts, stands_in, holder_awaited, own_priority, effective, effectives, Delivery, World, with_kernel, with_outbox, with_fresh_bit, recompute, settled, part, arrive, millis, wait, leave_kernel, leave_outbox, leave, end_wait, From, Priorities, Bitmap}
use lib.IntN.{ℤ}
use Rattle.model.proofs.NumberLaws.{numbered-at, numbered-other, numbered-same}
use Rattle.model.proofs.ByCase.{leaves-sending, leaves-other, recompute-if, recompute-not}
use Rattle.message.proofs.Areas.{length-with_outbox_message, outbox-same, outbox-other}
use Rattle.message.proofs.Packing.{zeros-padded}
use Rattle.queue.proofs.Listing.{Listing, arrived-listing}
use Rattle.ready.proofs.ReadyLaws.{arrival-bitmap}
use Rattle.ready.proofs.KeptLaws.{bits-recomputed, begun-right, end-right}
use Rattle.priority.proofs.EffectiveLaws.{effectives-agree, own-agree}
use Rattle.invariant.specs.Rows.{open_tasks, open_world}
use Rattle.invariant.specs.Invariant.{Lasting, Invariant, Steady}
use Rattle.invariant.proofs.Exchange.{inside}
use Rattle.invariant.proofs.Parts.{Boxed, recomputed, with-bits}
use Rattle.invariant.proofs.Moves.{with_row, moved, Meets, idle, same-box, moves}

-- ---- priorities and bits

pub priorities-recomputed : (k : Kernel) → Priorities (recompute k)
unfolding Priorities recompute facts stands_in open_tasks
priorities-recomputed k = refl

-- a world whose kernel is exchanged, and its priorities recomputed
pub steady-settled : {exiting : ℕ} (w : World) {k : Kernel} → Invariant exiting k w.store w.outbox → Steady exiting (settled (with_kernel w k))
unfolding settled with_kernel
steady-settled w {k} v = record { invariant = recomputed v; priorities = priorities-recomputed k; bitmap = bits-recomputed k }

-- arrivals, bits, buffers and pools do not enter them
pub priorities-beside : (k : Kernel) (ts bits : List ℕ) (x : Buffers) (y : Pools) → Priorities k
    → Priorities (record { tasks = k.tasks; arrivals = ts; bitmap = bits; mutexes = k.mutexes; buffers = x; pools = y })
unfolding Priorities effectives effective own_priority holder_awaited facts
priorities-beside k ts bits x y h = h

-- a task that goes from one place to another, neither of them a mutex's queue: nobody's priority changes
module _ (k : Kernel) (t : ℕ) (low : 1 ≤ t) (inside : t < length k.tasks.place) (q : Queue) (was : k.tasks.place ! t ≢ locking) (is : q.place ≢ locking) where
  same-awaited : (argument left : ℕ) (ts : List ℕ) (x : ℕ) → holder_awaited (facts k) x ≡ holder_awaited (facts (moved k t q argument left ts)) x
  unfolding holder_awaited facts moved with_row open_tasks
  same-awaited argument left ts x =
      let places = k.tasks.place in
      elim (ℕ_discrete x t) [
        | yes e ↦ rw (e, numbered-at places t low, numbered-same places t q.place low inside, ne_eqb (places ! t) locking was, ne_eqb q.place locking is)
        | no d ↦ rw (numbered-other places t q.place x d, numbered-other k.tasks.object t q.object x d)
      ]

  priorities-moved : (argument left : ℕ) (ts : List ℕ) → Priorities k → Priorities (moved k t q argument left ts)
  unfolding Priorities facts moved with_row open_tasks
  priorities-moved argument left ts h =
      let bases = set-get_or k.tasks.base t 0 in
      set-get_or k.tasks.current t 0 ∙ h
      ∙ effectives-agree (facts k) (facts (moved k t q argument left ts)) (λ u. own-agree _ _ u (ap (λ (xs : List ℕ). numbered xs ! u) (sym bases)) refl refl refl)
      (same-awaited argument left ts)

-- ---- a wait ends

pub ready-is : (k : Kernel) (t : ℕ) → arrive (leave_kernel k t) t ready_queue ≡ with_fresh_bit (moved k t ready_queue 0 0 (arrived t k.arrivals)) (k.tasks.current ! t)
unfolding arrive leave_kernel facts stands_in moved with_row open_tasks
ready-is k t = rw (set-set k.tasks.object t 0 0, set-get_or k.tasks.initial t 0, set-get_or k.tasks.base t 0, set-get_or k.tasks.current t 0)

-- priorities are recomputed if it was for a mutex; whatever else holds
pub priorities-ended : (w : World) (t : ℕ) (c : ℤ) (d : Delivery) → 1 ≤ t → t < length w.kernel.tasks.place → Priorities w.kernel → Priorities (end_wait w t c d).kernel
unfolding end_wait leave open_world
priorities-ended w t c d low inside h =
    rw (ready-is w.kernel t)
    (elim (ℕ_discrete (w.kernel.tasks.place ! t) locking) [
      | yes e ↦ rw (e, recompute-if) (priorities-recomputed _)
      | no n ↦
          rw (ne_eqb _ locking n, recompute-not)
          (priorities-beside _ _ _ _ _ (priorities-moved w.kernel t low inside ready_queue n (λ (z : ready ≡ locking). omega arith) 0 0 _ h))
    ])

module _ {exiting : ℕ} {w : World} (s : Steady exiting w) (t : ℕ) (low : 1 ≤ t) (high : t ≤ tasks) where
  abbrev k : Kernel
  k = w.kernel

  abbrev inv : Invariant exiting k w.store w.outbox
  inv = s.invariant

  -- who sends nothing has no bytes in the outbox
  pub box-empty : k.tasks.place ! t ≢ sending → part message_bytes t w.outbox ≡ zeros message_bytes
  box-empty d =
      let own = inv.of_tasks.each t low high in
      subst (λ (n : ℕ). drop n (part message_bytes t w.outbox) ≡ zeros (message_bytes - n)) (own.silent d) own.boxed

  -- a sender's bytes leave it
  pub box-left : Boxed t w.outbox (leave_outbox k w.outbox t) × (part message_bytes t (leave_outbox k w.outbox t) ≡ zeros message_bytes)
  box-left =
      let long : t * message_bytes ≤ length w.outbox = omega (arith, inv.of_tasks.size) in
      let other = outbox-other t w.outbox [] low long in
      let same = outbox-same t w.outbox [] low long ∙ sym (zeros-padded message_bytes) in
      elim (ℕ_discrete (k.tasks.place ! t) sending) [
        | yes e ↦ rw (leaves-sending k w.outbox t e) (record { size = length-with_outbox_message t w.outbox []; other = other }, same)
        | no d ↦ rw (leaves-other k w.outbox t d) (same-box inv t low high, box-empty d)
      ]

  -- to a place without a wait, in whatever arrivals
  pub moves-idle : (place : ℕ) {ts : List ℕ} → dormant ≤ k.tasks.place ! t → dormant ≤ place → place < locking → (ready ≤ place) ⊎ (t ≡ exiting)
      → Listing (set k.tasks.place t place) ts
      → Invariant exiting (moved k t (queue place 0) 0 0 ts) w.store (leave_outbox k w.outbox t)
  moves-idle place was least most stays list =
      moves inv t low high (queue place 0) 0 0 was (least, omega arith) stays (idle k t (queue place 0) 0 most) (inl (most, refl, refl)) (λ d. refl) list box-left.0 box-left.1

  pub ready-again : dormant ≤ k.tasks.place ! t → Invariant exiting (moved k t ready_queue 0 0 (arrived t k.arrivals)) w.store (leave_outbox k w.outbox t)
  ready-again h = moves-idle ready h (omega arith) (omega arith) (inl (omega arith)) (arrived-listing inv.of_tasks.listing t ready low high (omega arith))

  pub ended : (c : ℤ) (d : Delivery) → dormant ≤ k.tasks.place ! t → Steady exiting (end_wait w t c d)
  unfolding end_wait leave open_world
  ended c d h =
      record {
        invariant =
            rw (ready-is k t)
            (elim (ℕ_discrete (k.tasks.place ! t) locking) [
              | yes e ↦ rw (eq-eqb _ locking e, recompute-if) (recomputed (with-bits (ready-again h) _))
              | no n ↦ rw (ne_eqb _ locking n, recompute-not) (with-bits (ready-again h) _)
            ]);
        priorities = priorities-ended w t c d low (inside inv.of_tasks.lists.place high) s.priorities;
        bitmap = end-right w t c d s.bitmap;
      }

-- ---- a wait begins

module _ {w : World} (s : Steady 0 w) (t : ℕ) (low : 1 ≤ t) (high : t ≤ tasks) (q : Queue) (argument : ℕ) (timeout : ℤ) where
  abbrev waited : Kernel
  waited = moved w.kernel t q argument (millis timeout) (arrived t w.kernel.arrivals)

  pub wait-is : with_left (with_argument (arrive w.kernel t q) t argument) t (millis timeout) ≡ with_fresh_bit waited (w.kernel.tasks.current ! t)
  unfolding arrive facts stands_in moved with_row open_tasks
  wait-is = let x = w.kernel.tasks in rw (set-get_or x.initial t 0, set-get_or x.base t 0, set-get_or x.current t 0)

  pub waits_kept : {outbox' : List ℕ} → w.kernel.tasks.place ! t ≡ ready → From locking getting q.place → Meets w.kernel t q argument → Lasting (millis timeout)
      → (q.place ≢ sending → argument ≡ 0) → Boxed t w.outbox outbox' → drop argument (part message_bytes t outbox') ≡ zeros (message_bytes - argument)
      → Steady 0 (wait (with_outbox w outbox') t q argument timeout)
  unfolding wait open_world
  waits_kept {outbox'} was place meets time silent boxed bytes =
      let v = s.invariant in
      let kept : Invariant 0 waited w.store outbox' =
      moves v t low high q argument (millis timeout) (omega arith) (omega (arith, place)) (inl (omega (arith, place))) meets (inr (place.0, time)) silent
      (arrived-listing v.of_tasks.listing t q.place low high (omega (arith, place))) boxed bytes in
      let same = priorities-moved w.kernel t low (inside v.of_tasks.lists.place high) q (λ (z : w.kernel.tasks.place ! t ≡ locking). omega arith) in
      let right = subst Bitmap wait-is (begun-right (arrive w.kernel t q) t argument (millis timeout) (arrival-bitmap w.kernel t q s.bitmap)) in
      rw wait-is
      (elim (ℕ_discrete q.place locking) [
        | yes e ↦ rw (eq-eqb _ locking e, recompute-if) (record { invariant = recomputed (with-bits kept _); priorities = priorities-recomputed _; bitmap = bits-recomputed _ })
        | no n ↦
            rw (ne_eqb _ locking n, recompute-not)
            (record { invariant = with-bits kept _; priorities = priorities-beside _ _ _ _ _ (same n argument (millis timeout) _ s.priorities); bitmap = right })
      ])

  -- a wait that sends nothing
  pub waits-quiet : argument ≡ 0 → w.kernel.tasks.place ! t ≡ ready → From locking getting q.place → Meets w.kernel t q argument → Lasting (millis timeout)
      → Steady 0 (wait w t q argument timeout)
  unfolding with_outbox
  waits-quiet none was place meets time =
      waits_kept was place meets time (λ d. none) (same-box s.invariant t low high)
      (rw none (box-empty s t low high (λ (e : w.kernel.tasks.place ! t ≡ sending). omega arith)))
