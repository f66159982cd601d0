-- The drain: a first sender that fits is stored and leaves its queue, so the turns that a buffer has are enough, and no other buffer's first sender is touched.
use Rattle.model.proofs.Terms.{ℕ, zero, suc, ◌+◌, ◌≤◌, ◌<◌, ℕ_discrete, arith, ◌≡◌, ◌∙◌, refl, sym, ap, ◌≢◌, Bool, true, false, not, List, foldl, length, get_or-set_other, set-set, eqb, eqb-false, not-true, tasks, buffers, ◌!◌, up_to, without, E_OK, queue, ready_queue, sending, receiving, Kernel, with_buffers, with_argument, with_left, with_used, facts, stands_in, ready_at, by_priority, ordered, order, front, World, Nothing, queue_order, queue_front, cost, arrive, recompute_if, end_wait, fits, store_message, senders_message, serve, first_fits, store_first, drain, Each, From}
use mathlib.Core.Bool.{and-eq-true_iff}
use Rattle.model.proofs.ListLaws.{without-none, without-shorter}
use Rattle.model.proofs.ByCase.{serve-more, serve-stop}
use Rattle.message.proofs.Areas.{length-outbox_message}
use Rattle.message.proofs.RoomLaws.{fits-within}
use Rattle.queue.proofs.Listing.{room-left}
use Rattle.queue.proofs.Members.{Stood, order-short, of-queue, front-stood, front-in}
use Rattle.queue.proofs.Order.{arrive-order}
use Rattle.invariant.specs.Rows.{open_tasks, open_world, open_end}
use Rattle.invariant.specs.Invariant.{Steady}
use Rattle.invariant.proofs.Exchange.{inside}
use Rattle.model.proofs.Folds.{numbers_keep, numbers-agree}
use Rattle.invariant.proofs.Waits.{ended}
use Rattle.invariant.proofs.Stores.{buffer-there, stored}

-- the first sender's message fits: what that says of it
pub record Fitting (k : Kernel) (b t : ℕ) : Type 0 where
  pub stands : Stood k (queue sending b) t
  room : k.buffers.used ! b + cost (k.tasks.argument ! t) ≤ k.buffers.bufsz ! b

pub fitting : (k : Kernel) (b : ℕ) → first_fits k b ≡ true → Fitting k b (queue_front k (queue sending b))
unfolding first_fits
fitting k b e =
    let x = (and-eq-true_iff (not (eqb (queue_front k (queue sending b)) 0)) _).0 e in
    record { stands = front-stood k (queue sending b) (eqb-false _ 0 (not-true _ x.0)); room = fits-within k b _ x.1 }

-- a first sender is as it was where its queue, the buffer's bufsz and bytes used, and its message's length are
fits-same : (k j : Kernel) (c : ℕ) → queue_order j (queue sending c) ≡ queue_order k (queue sending c) → j.buffers.used ! c ≡ k.buffers.used ! c
    → j.buffers.bufsz ! c ≡ k.buffers.bufsz ! c
    → (queue_front k (queue sending c) ≢ 0 → j.tasks.argument ! queue_front k (queue sending c) ≡ k.tasks.argument ! queue_front k (queue sending c))
    → first_fits j c ≡ first_fits k c
unfolding first_fits fits queue_front front queue_order
fits-same k j c o u z a = rw (o, u, z) (elim (ℕ_discrete (queue_front k (queue sending c)) 0) [ yes e ↦ rw e | no d ↦ rw (a d) ])

module _ {w : World} (s : Steady 0 w) (b t : ℕ) (low : 1 ≤ b) (high : b ≤ buffers) (f : Fitting w.kernel b t) where
  abbrev k : Kernel
  k = w.kernel

  abbrev message : List ℕ
  message = senders_message w t

  sends : (k.buffers.exists ! b ≢ 0) × From 1 (k.buffers.maxmsz ! b) (k.tasks.argument ! t)
  sends =
      let x = s.invariant.of_buffers.sends t f.stands.low f.stands.high f.stands.place in
      ((λ (z : k.buffers.exists ! b ≡ 0). let e = ap (λ (o : ℕ). k.buffers.exists ! o) f.stands.object in omega (arith, x.there)), rw f.stands.object at x.sized)

  long : length message ≡ k.tasks.argument ! t
  unfolding senders_message
  long =
      let x = buffer-there s.invariant b low high sends.0 in
      length-outbox_message t (k.tasks.argument ! t) w.outbox (omega (arith, sends.1, x.longest)) f.stands.low (omega (arith, f.stands.high, s.invariant.of_tasks.size))

  nobody : Each tasks (λ u. k.tasks.place ! u ≡ receiving → k.tasks.object ! u ≢ b)
  nobody u i j p o = s.invariant.of_buffers.apart u i j t f.stands.low f.stands.high p f.stands.place (f.stands.object ∙ sym o)

  abbrev served : World
  served = end_wait (store_message w b message) t E_OK Nothing

  pub served-kept : Steady 0 served
  served-kept =
      ended (stored s b low high message sends.0 (rw long sends.1) (rw long f.room) nobody) t f.stands.low f.stands.high E_OK Nothing
      (unfold store_message with_used with_buffers open_world in omega (arith, f.stands.place))

  -- the kernel after it: the last two no queue reads
  served-is : served.kernel ≡ with_left (with_argument (arrive (with_used k b (k.buffers.used ! b + cost (length message))) t ready_queue) t 0) t 0
  unfolding store_message recompute_if ready_at facts with_used with_buffers open_end
  served-is = rw (f.stands.place, set-set k.tasks.object t 0 0)

  order-after : (c : ℕ) → queue_order served.kernel (queue sending c) ≡ without t (queue_order k (queue sending c))
  unfolding queue_order order ordered by_priority facts stands_in arrive with_used with_buffers open_tasks
  order-after c =
      ap (λ (j : Kernel). queue_order j (queue sending c)) served-is
      ∙ arrive-order k t ready_queue (queue sending c) f.stands.low f.stands.high (inside s.invariant.of_tasks.lists.place f.stands.high)
      (inside s.invariant.of_tasks.lists.object f.stands.high) (room-left s.invariant.of_tasks.listing t f.stands.low f.stands.high) refl

  -- who stands in another buffer's queue is not this task
  elsewhere : (c : ℕ) → c ≢ b → (u : ℕ) → Stood k (queue sending c) u → u ≢ t
  elsewhere c d u x e = d (sym x.object ∙ ap (λ (v : ℕ). k.tasks.object ! v) e ∙ f.stands.object)

  others-stay : (c : ℕ) → c ≢ b → first_fits served.kernel c ≡ first_fits k c
  unfolding arrive with_used with_buffers open_tasks
  others-stay c d =
      fits-same k served.kernel c (order-after c ∙ without-none t (queue_order k (queue sending c)) (λ m. elsewhere c d t (of-queue k (queue sending c) t m) refl))
      (ap (λ (j : Kernel). j.buffers.used ! c) served-is ∙ get_or-set_other k.buffers.used b c _ 0 d) (ap (λ (j : Kernel). j.buffers.bufsz ! c) served-is)
      (λ n. ap (λ (j : Kernel). j.tasks.argument ! queue_front k (queue sending c)) served-is
      ∙ get_or-set_other k.tasks.argument t (queue_front k (queue sending c)) 0 0 (elsewhere c d _ (front-stood k (queue sending c) n)))

-- ---- one buffer, and all

abbrev can : ℕ → World → Bool
can b w = first_fits w.kernel b

abbrev serving : ℕ → World → ℕ → World
serving n w b = serve n (can b) (λ u. store_first u b) w

-- after enough turns
record Served (n b : ℕ) (w w' : World) : Type 0 where
  steady : Steady 0 w'
  done : can b w' ≡ false
  others : (c : ℕ) → c ≢ b → can c w' ≡ can c w
  enough : (more : ℕ) → n ≤ more → serving more w b ≡ w'

module _ (b : ℕ) (low : 1 ≤ b) (high : b ≤ buffers) where
  stops : (n : ℕ) (w : World) → Steady 0 w → can b w ≡ false → Served n b w (serving n w b)
  stops n w s e =
      rw (serve-stop (can b) (λ u. store_first u b) w n e)
      (record { steady = s; done = e; others = λ c d. refl; enough = λ more h. serve-stop (can b) (λ u. store_first u b) w more e })

  -- one more turn
  goes_on : (n : ℕ) (w : World) → Steady 0 w → can b w ≡ true → Served n b (store_first w b) (serving n (store_first w b) b) → Served (suc n) b w (serving (suc n) w b)
  unfolding store_first
  goes_on n w s e r =
      rw (serve-more (can b) (λ u. store_first u b) w n e)
      (record { steady = r.steady; done = r.done; others = λ c d. r.others c d ∙ others-stay s b _ low high (fitting w.kernel b e) c d; enough = enough })
    where
      enough : (more : ℕ) → suc n ≤ more → serving more w b ≡ serving n (store_first w b) b
      enough zero h = absurd (omega arith)
      enough (suc more) h = serve-more (can b) (λ u. store_first u b) w more e ∙ r.enough more (omega arith)

  -- a turn makes the queue shorter
  less : (w : World) → Steady 0 w → can b w ≡ true → length (queue_order (store_first w b).kernel (queue sending b)) < length (queue_order w.kernel (queue sending b))
  unfolding store_first
  less w s e =
      let f = fitting w.kernel b e in
      let first = front-in w.kernel (queue sending b) (λ (z : queue_front w.kernel (queue sending b) ≡ 0). omega (arith, f.stands.low)) in
      rw (order-after s b _ low high f b) (without-shorter (queue_front w.kernel (queue sending b)) (queue_order w.kernel (queue sending b)) first)

  serves : (n : ℕ) (w : World) → Steady 0 w → length (queue_order w.kernel (queue sending b)) ≤ n → Served n b w (serving n w b)
  unfolding store_first
  serves zero w s h = elim (can b w) as (λ x. can b w ≡ x → Served zero b w w) [ true ↦ λ e. absurd (omega (arith, less w s e)) | false ↦ stops zero w s ] refl
  serves (suc n) w s h =
      elim (can b w) as (λ x. can b w ≡ x → Served (suc n) b w (serving (suc n) w b)) [
        | true ↦ λ e. goes_on n w s e (serves n (store_first w b) (served-kept s b _ low high (fitting w.kernel b e)) (omega (arith, less w s e)))
        | false ↦ stops (suc n) w s
      ] refl

-- ---- the drain

-- the first buffers are served
record Drained (n : ℕ) (w : World) : Type 0 where
  steady : Steady 0 w
  done : (c : ℕ) → 1 ≤ c → c < n → can c w ≡ false

not_yet : {w : World} → Steady 0 w → Drained 1 w
not_yet s = record { steady = s; done = λ c i j. absurd (omega arith) }

-- no queue has more tasks than there are
turn : (n : ℕ) (w : World) → 1 ≤ n → n ≤ buffers → Drained n w → Served tasks n w (serving tasks w n)
turn n w low high d =
    serves n low high tasks w d.steady (omega (arith, order-short w.kernel (queue sending n), d.steady.invariant.of_tasks.listing.size))

one_more : (n : ℕ) (w : World) → 1 ≤ n → n ≤ buffers → Drained n w → Drained (suc n) (serving tasks w n)
one_more n w low high d =
    let r = turn n w low high d in
    record { steady = r.steady; done = λ c i j. elim (ℕ_discrete c n) [ yes e ↦ rw e r.done | no m ↦ r.others c m ∙ d.done c i (omega arith) ] }

module _ (w : World) (s : Steady 0 w) where
  pub drained : Steady 0 (drain w) × Each buffers (λ b. first_fits (drain w).kernel b ≡ false)
  unfolding drain
  drained = let d = numbers_keep Drained (serving tasks) buffers one_more w (not_yet s) in (d.steady, λ b i j. d.done b i (omega arith))

  -- more turns would change nothing
  pub enough_turns : (n : ℕ) → tasks ≤ n → foldl (serving n) w (up_to buffers) ≡ drain w
  unfolding drain
  enough_turns n h = numbers-agree Drained (serving tasks) buffers one_more (serving n) (λ b v low high d. (turn b v low high d).enough n h) w (not_yet s)
