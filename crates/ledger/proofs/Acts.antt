-- The acts of a call and the ledger: what an act does to the kernel, its entry or the ended waits do to the ledger.
use Rattle.model.proofs.Terms.{ℕ, ◌≤◌, ◌<◌, ℕ_discrete, arith, ◌≡◌, ◌∙◌, refl, sym, ap, Bool, true, false, ◌&&◌, none, Option·map, [], List, get_or, set, set-set, get_or-set_same, foldl, map-append, foldl-append, eqb, ltb-true, eqb-true, ℤ, pos, negsuc, le_z, lt_z, tasks, mutexes, buffers, ◌!◌, member, E_OK, Queue, queue, ready_queue, ready, locking, sending, Kernel, Mutexes, Buffers, Pools, with_bitmap, with_buffers, with_mutexes, with_holder, with_used, stands_in, facts, with_kernel, queue_front, recompute, World, Delivery, Nothing, with_outbox, arrive, millis, settled, wait, leave_kernel, leave, end_wait, end_waits, release, store_message, senders_message, first_fits, store_first, drain, Ledger, with_mutex_entry, with_lines, line, depart, line_of, standing, on_mutex, holds, join, ends_wait}
use mathlib.Core.Option.{map-map}
use Rattle.model.proofs.ByCase.{recompute-only, release-free, release-next}
use Rattle.model.proofs.Folds.{numbers_keep, serve-keeps}
use Rattle.queue.proofs.Members.{front-stood}
use Rattle.invariant.specs.Rows.{open_tasks, open_world, open_end}
use Rattle.invariant.specs.Invariant.{Steady}
use Rattle.invariant.proofs.Waits.{ready-is, wait-is, ended}
use Rattle.invariant.proofs.Ends.{Started, Left, end_one, waits-ended, strike, struck-alike}
use Rattle.invariant.proofs.Drain.{fitting, served-kept}
use Rattle.ledger.specs.Abstraction.{widths, ledger_of}
use Rattle.ledger.specs.Statements.{ended_codes}
use Rattle.ledger.proofs.Tables.{length-table, MutexEntries, on_mutexes}
use Rattle.ledger.proofs.Lines.{stands_at, joins}
use Rattle.ledger.proofs.Entries.{held_by-ledger}

-- the ledger that the call has begun, after the waits ended so far, is the kernel's
abbrev pub Follows : Ledger → World → Type 0
Follows l w = foldl ends_wait l (ended_codes w.ended) ≡ ledger_of w.kernel

-- or is ahead of the kernel's by a change
abbrev pub Ahead : (Ledger → Ledger) → Ledger → World → Type 0
Ahead f l w = foldl ends_wait l (ended_codes w.ended) ≡ f (ledger_of w.kernel)

-- current priorities are no part of it
pub not-priorities : (k : Kernel) → ledger_of (recompute k) ≡ ledger_of k
unfolding ledger_of recompute facts stands_in open_tasks
not-priorities k = refl

-- nor are the bits
not-bits : (k : Kernel) (word : ℕ) → ledger_of (with_bitmap k word) ≡ ledger_of k
unfolding ledger_of facts stands_in
not-bits k word = refl

pub waits-entered : {w : World} → Steady 0 w → (t : ℕ) → 1 ≤ t → t ≤ tasks → (q : Queue) (argument : ℕ) (timeout : ℤ) (outbox : List ℕ)
    → ready ≤ w.kernel.tasks.place ! t → ready ≤ q.place → q.object < widths ! q.place
    → join (ledger_of w.kernel) t q ≡ ledger_of (wait (with_outbox w outbox) t q argument timeout).kernel
unfolding wait ledger_of facts stands_in open_tasks open_world
waits-entered s t low high q argument timeout outbox was is inside =
    joins s.invariant t low high q argument (millis timeout) was is inside
    ∙ sym (ap ledger_of (recompute-only _ _) ∙ ap ledger_of (wait-is s t low high q argument timeout))

-- ---- a wait ends

-- in the ledger, with a mutex
gets-mutex : (l : Ledger) (t m : ℕ) → standing l t ≡ queue locking m → ends_wait l (t, E_OK) ≡ join (on_mutex l m (holds t)) t ready_queue
unfolding ends_wait
gets-mutex l t m e = rw e

-- or without
no-mutex : (l : Ledger) (t : ℕ) (c : ℤ) → ((standing l t).place ≡ locking → lt_z c (pos 0) ≡ true) → ends_wait l (t, c) ≡ join l t ready_queue
unfolding ends_wait
no-mutex l t c h = rw (go c (eqb (standing l t).place locking) (λ e. h (eqb-true _ _ e)))
  where
    go : (e : ℤ) (b : Bool) → (b ≡ true → lt_z e (pos 0) ≡ true) → (b && le_z (pos 0) e && le_z e (pos 0)) ≡ false
    go e false g = refl
    go (pos n) true g = absurd (omega (arith, ltb-true n 0 (g refl)))
    go (negsuc n) true g = refl

-- in the kernel
ended-ready : (w : World) (t : ℕ) (c : ℤ) (d : Delivery) → ledger_of (end_wait w t c d).kernel ≡ ledger_of (arrive (leave_kernel w.kernel t) t ready_queue)
unfolding end_wait leave ledger_of facts stands_in open_tasks open_world
ended-ready w t c d = ap ledger_of (recompute-only _ _)

module _ (l : Ledger) {exiting : ℕ} {w : World} (s : Steady exiting w) (t : ℕ) (low : 1 ≤ t) (high : t ≤ tasks) (was : ready ≤ w.kernel.tasks.place ! t)
    (c : ℤ) (d : Delivery) where
  end-ahead : (f g : Ledger → Ledger) → ends_wait (f (ledger_of w.kernel)) (t, c) ≡ g (join (ledger_of w.kernel) t ready_queue)
      → Ahead f l w → Ahead g l (end_wait w t c d)
  unfolding widths end_wait leave open_world
  end-ahead f g e h =
      rw (map-append, foldl-append, h)
      (e ∙ ap g (joins s.invariant t low high ready_queue 0 0 was (omega arith) (omega arith) ∙ sym (ended-ready w t c d ∙ ap ledger_of (ready-is w.kernel t) ∙ not-bits _ _)))

  -- no mutex comes with it
  pub end-follows : (w.kernel.tasks.place ! t ≡ locking → lt_z c (pos 0) ≡ true) → Follows l w → Follows l (end_wait w t c d)
  end-follows h = end-ahead (λ j. j) (λ j. j) (no-mutex (ledger_of w.kernel) t c (rw (stands_at s.invariant t low high) h))

pub drain-follows : (l : Ledger) {w : World} → Steady 0 w → Follows l w → Follows l (drain w)
unfolding drain store_first end_wait leave store_message ledger_of arrive leave_kernel with_used with_buffers facts stands_in open_tasks open_world
drain-follows l {w} s f =
    (numbers_keep (λ n. Kept) _ buffers (λ b v low high. serve-keeps Kept (λ u. first_fits u.kernel b) (λ u. store_first u b) (turn b low high) tasks v) w (s, f)).1
  where
    Kept : World → Type 0
    Kept v = Steady 0 v × Follows l v

    turn : (b : ℕ) → 1 ≤ b → b ≤ buffers → (v : World) → first_fits v.kernel b ≡ true → Kept v → Kept (store_first v b)
    turn b low high v e p =
        let t = queue_front v.kernel (queue sending b) in
        let x = fitting v.kernel b e in
        let h = x.stands.place in
        let f = end-follows l p.0 t x.stands.low x.stands.high (omega arith) E_OK Nothing (λ z. absurd (omega arith)) p.1 in
        (served-kept p.0 b t low high x, f ∙ ended-ready v t E_OK Nothing ∙ sym (ended-ready (store_message v b (senders_message v t)) t E_OK Nothing))

-- ---- a mutex is given up

-- an entry that gets another holder
abbrev pub held_by : ℕ → ℕ → MutexEntries → MutexEntries
held_by m t xs = set xs m (Option·map (holds t) (get_or xs m none))

module _ {exiting : ℕ} {w : World} (s : Steady exiting w) (m : ℕ) (high : m ≤ mutexes) where
  abbrev k : Kernel
  k = w.kernel

  abbrev first : ℕ
  first = queue_front k (queue locking m)

  -- in a ledger where it is free already, and more may be changed: the first that waits gets it in both
  pub release-ahead : (f g : MutexEntries → MutexEntries) → held_by m 0 (f (ledger_of k).mutexes) ≡ f (ledger_of k).mutexes
      → held_by m first (f (ledger_of k).mutexes) ≡ g (held_by m first (ledger_of k).mutexes)
      → (l : Ledger) → Ahead (on_mutexes f) l w → Ahead (on_mutexes g) l (release w m)
  unfolding on_mutex with_mutex_entry standing line_of join depart with_lines line settled with_holder with_mutexes ledger_of facts stands_in open_end
  release-ahead f g free same l h = go (ℕ_discrete first 0)
    where
      go : Dec (first ≡ 0) → Ahead (on_mutexes g) l (release w m)
      go (yes e) =
          rw (release-free w m e)
          (h ∙ ap (λ (xs : MutexEntries). on_mutexes (λ ys. xs) (ledger_of k)) (sym free ∙ (rw e at same))
          ∙ ap (on_mutexes g) (held_by-ledger s.invariant m 0 high ∙ sym (not-priorities _)))
      go (no d) =
          let x = front-stood k (queue locking m) d in
          let p = x.place in
          rw (release-next w m refl d)
          (end-ahead l s first x.low x.high (omega arith) E_OK Nothing (on_mutexes f) (λ j. on_mutexes g (on_mutex j m (holds first)))
          (gets-mutex (on_mutexes f (ledger_of k)) first m (stands_at s.invariant first x.low x.high ∙ (λ i. queue (x.place i) (x.object i)))
          ∙ ap (λ (xs : MutexEntries). on_mutexes (λ ys. xs) (join (ledger_of k) first ready_queue)) same) h
          ∙ ap (on_mutexes g)
          (held_by-ledger (ended s first x.low x.high E_OK Nothing (omega arith)).invariant m first high
          ∙ ap (λ (j : Kernel). ledger_of (with_holder j m first)) (recompute-only _ _) ∙ sym (ended-ready (with_kernel w (with_holder k m first)) first E_OK Nothing)))

pub release-follows : {w : World} → Steady 0 w → w.ended ≡ [] → (m : ℕ) → m ≤ mutexes → Follows (on_mutex (ledger_of w.kernel) m (holds 0)) (release w m)
unfolding on_mutex with_mutex_entry
release-follows {w} s z m high = release-ahead s m high (held_by m 0) (λ xs. xs) (again 0) (again _) (on_mutex (ledger_of w.kernel) m (holds 0)) (rw z)
  where
    again : (u : ℕ) → held_by m u (held_by m 0 (ledger_of w.kernel).mutexes) ≡ held_by m u (ledger_of w.kernel).mutexes
    again u = unfold holds ledger_of in rw (set-set, get_or-set_same (ledger_of w.kernel).mutexes m _ none (rw length-table (omega arith)), map-map)

-- ---- an object is struck out

-- of the ledger and the kernel, and the waits for it end with a negative code
pub strike-follows : (m : Mutexes → Mutexes) (b : Buffers → Buffers) (p : Pools → Pools) (store : List ℕ → List ℕ) (struck : Ledger → Ledger)
    → ((k : Ledger) (t : ℕ) (q : Queue) → join (struck k) t q ≡ struck (join k t q))
    → (c : ℤ) → lt_z c (pos 0) ≡ true → (ts : List ℕ) (w first : World) → settled first ≡ settled (strike m b p store w) → Steady 0 w → w.ended ≡ []
    → ((u : ℕ) → member u ts ≡ true → Started w.kernel u)
    → (let v = end_waits w ts c in Left ts w v → struck (ledger_of v.kernel) ≡ ledger_of (strike m b p store v).kernel)
    → Follows (struck (ledger_of w.kernel)) (end_waits first ts c)
unfolding settled open_world
strike-follows m b p store struck apart c negative ts w first same s z started entry =
    let l = struck (ledger_of w.kernel) in
    let alike = struck-alike m b p store c ts w first same in
    let r = waits-ended c (Ahead struck l) turn ts w s started (rw z) in
    ap (λ (v : World). foldl ends_wait l (ended_codes v.ended)) alike ∙ r.1 ∙ entry r.0 ∙ sym (not-priorities _)
    ∙ ap (λ (v : World). ledger_of v.kernel) (sym alike) ∙ not-priorities _
  where
    turn : (v : World) (t : ℕ) → Steady 0 v → Started v.kernel t → Ahead struck (struck (ledger_of w.kernel)) v
        → Ahead struck (struck (ledger_of w.kernel)) (end_one c v t)
    turn v t r g =
        end-ahead (struck (ledger_of w.kernel)) r t g.low g.high g.started c Nothing struck struck
        (no-mutex (struck (ledger_of v.kernel)) t c (λ e. negative) ∙ apart (ledger_of v.kernel) t ready_queue)
