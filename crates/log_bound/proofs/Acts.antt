-- Waits counted: each task counts once, while it waits or once its wait has ended; and every act keeps the count. Assumes nothing.
use mathlib.Core.Bool.{and-eq-true_iff}
use Rattle.model.proofs.Terms.{ℕ, zero, suc, pred, ◌+◌, ◌≤◌, ℕ_discrete, arith, ◌≡◌, ◌∙◌, refl, sym, ◌≢◌, Bool, false, ◌||◌, cond, List, [], ◌∷◌, ◌++◌, map-append, length, set, length-append, get_or-set_other, ℤ, eqb, leb, eq-eqb, ne_eqb, eqb-true, eqb-false, le-leb, lt-ltb, not-true, tasks, mutexes, buffers, endless, ◌!◌, select, occurrences, E_OK, E_TMOUT, dormant, ready, locking, sending, Queue, queue, ready_queue, with_holder, Kernel, with_kernel, queue_order, queue_front, Delivery, Ended, World, Nothing, arrive, settled, leave_kernel, leave, end_wait, end_waits, release, release_all, become_dormant, store_message, senders_message, first_fits, store_first, drain, serve, tick_task, ByNumber}
use Rattle.model.specs.Kernel.{compute_kernel}
use Rattle.model.specs.World.{compute_world}
use Rattle.model.proofs.ListLaws.{by-test, length-keep, length-select, member-counted}
use Rattle.model.proofs.ByCase.{recompute-only}
use Rattle.model.proofs.Folds.{numbers_keep, serve-keeps}
use Rattle.queue.proofs.ArrivalLaws.{select-append}
use Rattle.queue.proofs.Listing.{Listing}
use Rattle.queue.proofs.Members.{of-queue, front-stood, once-each}
use Rattle.log_bound.specs.Statements.{delivers, delivered, times_ended}

-- ---- who waits, by the places of the tasks

abbrev pub waits_at : ℕ → ℕ
waits_at place = cond (leb locking place) 1 0

abbrev pub waiting_at : List ℕ → ℕ
waiting_at ps = length (select (leb locking) ps)

pub waits-once : (p : ℕ) → waits_at p ≤ 1
waits-once p = by-test (λ n. n ≤ 1) (leb locking p) (λ e. omega arith) (λ e. omega arith)

-- one task's place exchanged
pub waiting-set : (ps : List ℕ) (t p : ℕ) → waiting_at (set ps t p) + waits_at (ps ! t) ≤ waiting_at ps + waits_at p
waiting-set [] t p = omega arith
waiting-set (q ∷ ps) zero p = simp length-keep (omega arith)
waiting-set (q ∷ ps) (suc t) p = let rest = waiting-set ps t p in simp length-keep (omega arith)

-- no more wait than there are tasks
waiting_few : (ps : List ℕ) → ByNumber tasks ps → waiting_at ps ≤ tasks
waiting_few [] h = omega arith
waiting_few (p ∷ ps) h = rw h.none_zero (omega (arith, length-select (leb locking) ps, h.long))

-- ---- waits that stand, by the places, and waits that have ended

-- They are m at most, no more than there are tasks and of no task two, and n of those that have ended delivered something at most.
pub record Counted (m n : ℕ) (ps : List ℕ) (es : List Ended) : Type 0 where
  pub few : m ≤ tasks
  pub each : (t : ℕ) → times_ended t es + waits_at (ps ! t) ≤ 1
  pub total : length es + waiting_at ps ≤ m
  pub handed : delivered es ≤ n

abbrev pub Counts : ℕ → ℕ → World → Type 0
Counts m n w = Counted m n w.kernel.tasks.place w.ended

pub none-ended : (ps : List ℕ) → ByNumber tasks ps → Counted (waiting_at ps) 0 ps []
none-ended ps h = record { few = waiting_few ps h; each = λ t. omega (arith, waits-once (ps ! t)); total = omega arith; handed = omega arith }

idle-there : (ps : List ℕ) (t p : ℕ) → waits_at p ≡ 0 → waits_at (set ps t p ! t) ≡ 0
idle-there [] t p idle = refl
idle-there (q ∷ ps) zero p idle = idle
idle-there (q ∷ ps) (suc t) p idle = idle-there ps t p idle

-- A task comes to a place where it does not wait.
module _ {m n : ℕ} {ps : List ℕ} {es : List Ended} (counted : Counted m n ps es) (t p : ℕ) (idle : waits_at p ≡ 0) where
  waits-no-more : (u : ℕ) → waits_at (set ps t p ! u) + cond (eqb u t) (waits_at (ps ! t)) 0 ≤ waits_at (ps ! u)
  waits-no-more u = elim (ℕ_discrete u t)
      [ yes e ↦ rw (e, eq-eqb t t refl, idle-there ps t p idle) (omega arith) | no d ↦ rw (ne_eqb u t d, get_or-set_other ps t u p 0 d) (omega arith) ]

  pub placed : Counted m n (set ps t p) es
  placed =
      let total = counted.total in
      record { few = counted.few; each = λ u. omega (arith, counted.each u, waits-no-more u); total = omega (arith, waiting-set ps t p); handed = counted.handed }

-- ---- a wait ends

delivered-append : (es fs : List Ended) → delivered (es ++ fs) ≡ delivered es + delivered fs
delivered-append [] fs = omega arith
delivered-append (e ∷ es) fs = omega (arith, delivered-append es fs)

module _ (w : World) (t : ℕ) (c : ℤ) (d : Delivery) where
  ended-tasks : ((end_wait w t c d).kernel.tasks.place ≡ set w.kernel.tasks.place t ready)
      × ((end_wait w t c d).kernel.tasks.left ≡ set w.kernel.tasks.left t 0)
  unfolding end_wait leave leave_kernel arrive compute_kernel compute_world
  ended-tasks =
      let same = recompute-only (arrive (leave_kernel w.kernel t) t ready_queue) (eqb (w.kernel.tasks.place ! t) locking) in
      (λ i. (same i).tasks.place, λ i. (same i).tasks.left)

  -- a wait that stood ends, and with what it delivers o deliveries are made at most
  ends : {m n o : ℕ} → waits_at (w.kernel.tasks.place ! t) ≡ 1 → n + delivers d ≤ o → Counts m n w → Counts m o (end_wait w t c d)
  unfolding end_wait leave compute_world
  ends waits handed counted =
      let less = waits-no-more counted t ready refl in
      rw ended-tasks.0 (record {
        few = counted.few;
        each = λ u. rw (map-append, select-append, length-append, length-keep) (omega (arith, counted.each u, rw waits at (less u)));
        total = rw length-append (omega (arith, counted.total, waiting-set w.kernel.tasks.place t ready));
        handed = rw delivered-append (omega (arith, counted.handed));
      })

-- the first of a queue of waiting tasks, in a world with the places that it stands by
pub front_ends : {m n o : ℕ} (w : World) (k : Kernel) (q : Queue) (c : ℤ) (d : Delivery) → w.kernel.tasks.place ≡ k.tasks.place
    → waits_at q.place ≡ 1 → eqb (queue_front k q) 0 ≡ false → n + delivers d ≤ o → Counts m n w → Counts m o (end_wait w (queue_front k q) c d)
front_ends w k q c d same waits e = ends w (queue_front k q) c d (rw (same, (front-stood k q (eqb-false _ 0 e)).place) waits)

-- tasks that wait, each at most once
abbrev pub AllWait : List ℕ → Kernel → Type 0
AllWait ts k = (t : ℕ) → occurrences t ts ≤ waits_at (k.tasks.place ! t)

-- counted waits; and who has time left, of the tasks from t on, waits
abbrev pub Timed : ℕ → ℕ → ℕ → World → Type 0
Timed m n t w = Counts m n w × ((u : ℕ) → t ≤ u → u ≤ tasks → w.kernel.tasks.left ! u ≢ 0 → waits_at (w.kernel.tasks.place ! u) ≡ 1)

module _ {m n : ℕ} where
  -- a mutex is given up, and all that a task holds
  pub release-counts : (w : World) (i : ℕ) → Counts m n w → Counts m n (release w i)
  unfolding release settled compute_kernel compute_world
  release-counts w i counted = by-test (Counts m n) (eqb (queue_front w.kernel (queue locking i)) 0) (λ e. counted)
      (λ e. front_ends (with_kernel w (with_holder w.kernel i _)) w.kernel (queue locking i) E_OK Nothing refl refl e (omega arith) counted)

  all-released : (w : World) (t : ℕ) → Counts m n w → Counts m n (release_all w t)
  unfolding release_all
  all-released w t =
      let holds : World → ℕ → Bool = λ v i. eqb (v.kernel.mutexes.holder ! i) t in
      numbers_keep (λ i. Counts m n) (λ v i. cond (holds v i) (release v i) v) mutexes
      (λ i v low high h. by-test (Counts m n) (holds v i) {x = release v i} {y = v} (λ e. release-counts v i h) (λ e. h)) w

  pub dormant-counts : (w : World) (t : ℕ) → Counts m n w → Counts m n (become_dormant w t)
  unfolding become_dormant settled leave leave_kernel compute_kernel compute_world
  dormant-counts w t counted = all-released _ t (placed counted t dormant refl)

  -- senders are served
  pub drain-counts : (w : World) → Counts m n w → Counts m n (drain w)
  unfolding drain first_fits store_first store_message compute_kernel compute_world
  drain-counts =
      numbers_keep (λ b. Counts m n) (λ v b. serve tasks (λ u. first_fits u.kernel b) (λ u. store_first u b) v) buffers
      (λ b v low high. serve-keeps (Counts m n) (λ u. first_fits u.kernel b) (λ u. store_first u b)
      (λ u e h. front_ends (store_message u b (senders_message u _)) u.kernel (queue sending b) E_OK Nothing refl refl
      (not-true _ ((and-eq-true_iff _ _).0 e).0) (omega arith) h) tasks v)

  -- the waits for what is deleted
  pub waits_end : (ts : List ℕ) (w : World) (c : ℤ) → AllWait ts w.kernel → Counts m n w → Counts m n (end_waits w ts c)
  unfolding end_waits
  waits_end [] w c all counted = counted
  waits_end (t ∷ ts) w c all counted =
      let ps = w.kernel.tasks.place in
      let here : suc (occurrences t ts) ≤ waits_at (ps ! t) = rw (eq-eqb t t refl) at (all t) in
      waits_end ts (end_wait w t c Nothing) c
      (λ u. rw (ended-tasks w t c Nothing).0 (elim (ℕ_discrete u t)
      [ yes e ↦ rw e (omega (arith, here, counted.each t)) | no d ↦ rw (get_or-set_other ps t u ready 0 d) (rw (ne_eqb u t d) at (all u)) ]))
      (ends w t c Nothing (omega (arith, here, counted.each t)) (omega arith) counted)

  -- a millisecond for one task
  pub tick-counts : (t : ℕ) (w : World) → 1 ≤ t → t ≤ tasks → Timed m n t w → Timed m n (suc t) (tick_task w t)
  unfolding tick_task compute_kernel compute_world
  tick-counts t w low high (counted, timed) =
      let ls = w.kernel.tasks.left in
      let later : (xs : List ℕ) (y u : ℕ) → suc t ≤ u → set xs t y ! u ≡ xs ! u = λ xs y u l. get_or-set_other xs t u y 0 (λ e. omega arith) in
      by-test (Timed m n (suc t)) (eqb (ls ! t) 0 || eqb (ls ! t) endless) (λ e. (counted, λ u l. timed u (omega arith)))
      (λ e. by-test (Timed m n (suc t)) (eqb (ls ! t) 1)
      (λ f. let waits = timed t (omega arith) high (λ z. omega (arith, eqb-true (ls ! t) 1 f)) in
      let after = ended-tasks w t E_TMOUT Nothing in
      (ends w t E_TMOUT Nothing waits (omega arith) counted, λ u l. rw (after.0, after.1, later _ ready u l, later ls 0 u l) (timed u (omega arith))))
      (λ f. (counted, λ u l. rw (later ls (pred (ls ! t)) u l) (timed u (omega arith)))))

-- ---- who stands in a queue of waiting tasks

module _ (k : Kernel) (listing : Listing k.tasks.place k.arrivals) where
  -- nobody who is elsewhere
  none_elsewhere : (q : Queue) (t : ℕ) → k.tasks.place ! t ≢ q.place → occurrences t (queue_order k q) ≡ 0
  none_elsewhere q t d = elim (ℕ_discrete (occurrences t (queue_order k q)) 0)
      [ yes e ↦ e | no n ↦ absurd (d (of-queue k q t (member-counted t (queue_order k q) ∙ lt-ltb 0 (occurrences t (queue_order k q)) (omega arith))).place) ]

  pub queue-waits : (q : Queue) → locking ≤ q.place → AllWait (queue_order k q) k
  queue-waits q h t = elim (ℕ_discrete (k.tasks.place ! t) q.place)
      [ yes e ↦ rw (e, le-leb locking q.place h) (once-each k listing q t) | no d ↦ omega (arith, none_elsewhere q t d) ]

  pub queues-wait : (p q : Queue) → locking ≤ p.place → locking ≤ q.place → p.place ≢ q.place → AllWait (queue_order k p ++ queue_order k q) k
  queues-wait p q g h d t =
      rw (select-append, length-append) (elim (ℕ_discrete (k.tasks.place ! t) p.place)
      [ yes e ↦ omega (arith, queue-waits p g t, none_elsewhere q t (λ f. d (sym e ∙ f))) | no n ↦ omega (arith, queue-waits q h t, none_elsewhere p t n) ])
