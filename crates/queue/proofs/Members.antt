-- Who stands in a queue of the kernel, by its arrivals, its order and its first task. Assumes nothing.
use mathlib.Core.Bool.{and-eq-true_iff}
use Rattle.model.proofs.Terms.{ℕ, ◌≤◌, ℕ_discrete, arith, ◌≡◌, ◌∙◌, refl, sym, ap, ◌≢◌, Bool, true, false, cond, false≢true, List, [], ◌∷◌, length, eqb, leb, ltb, eq-eqb, eqb-true, le-leb, lt-ltb, tasks, ◌!◌, select, member, head_of, occurrences, within, ready, Queue, ready_queue, by_priority, ordered, order, front, insert, sorted, Kernel, stands_in, facts, queue_order, queue_front, running, Each}
use Rattle.model.proofs.ListLaws.{or_left, length-keep, length-select, member-counted, select-every, select-swap}
use Rattle.queue.proofs.ArrivalLaws.{member-select}
use Rattle.queue.proofs.Order.{insert-less, insert-more}
use Rattle.queue.proofs.Standing.{stands-task}
use Rattle.queue.proofs.Fronts.{standing, front-stands}
use Rattle.queue.proofs.Running.{running-stands}
use Rattle.queue.proofs.Listing.{Listing, is-listed, listed}

-- ---- a queue's order has the queue's arrivals, each as often: as many of them pass any test

module _ (current : List ℕ) (p : ℕ → Bool) where
  insert-count : (t : ℕ) (us : List ℕ) → length (select p (insert current t us)) ≡ length (select p (t ∷ us))
  insert-count t [] = refl
  insert-count t (v ∷ us) = go (leb (current ! t) (current ! v)) refl (insert-count t us)
    where
      go : (b : Bool) → leb (current ! t) (current ! v) ≡ b → length (select p (insert current t us)) ≡ length (select p (t ∷ us))
          → length (select p (insert current t (v ∷ us))) ≡ length (select p (t ∷ v ∷ us))
      go true e rest = rw (insert-less current t v us e)
      go false e rest = rw (insert-more current t v us e) (let r = simp length-keep at rest in simp length-keep (omega arith))

  sorted-count : (ts : List ℕ) → length (select p (sorted current ts)) ≡ length (select p ts)
  sorted-count [] = refl
  sorted-count (t ∷ ts) = insert-count t (sorted current ts) ∙ (let rest = sorted-count ts in simp length-keep (omega arith))

order-count : (k : Kernel) (q : Queue) (p : ℕ → Bool) → length (select p (queue_order k q)) ≡ length (select p (standing k q))
unfolding queue_order order ordered facts
order-count k q p = go (by_priority (facts k) q)
  where
    go : (b : Bool) → length (select p (cond b (sorted k.tasks.current (standing k q)) (standing k q))) ≡ length (select p (standing k q))
    go true = sorted-count k.tasks.current p (standing k q)
    go false = refl

-- a task that stands in a queue
pub record Stood (k : Kernel) (q : Queue) (t : ℕ) : Type 0 where
  pub low : 1 ≤ t
  pub high : t ≤ tasks
  pub place : k.tasks.place ! t ≡ q.place
  pub object : k.tasks.object ! t ≡ q.object

module _ (k : Kernel) (q : Queue) where
  pub order-short : length (queue_order k q) ≤ length k.arrivals
  order-short =
      let all : (ts : List ℕ) → select (λ u. true) ts ≡ ts = λ ts. select-every (λ u. true) ts (λ u m. refl) in
      omega (arith, rw (all (queue_order k q), all (standing k q)) at (order-count k q (λ u. true)), length-select (stands_in k q) k.arrivals)

  pub in_order : (u : ℕ) → member u (queue_order k q) ≡ member u ((facts k).arrivals q)
  unfolding facts
  in_order u = member-counted u (queue_order k q) ∙ ap (ltb 0) (order-count k q (eqb u)) ∙ sym (member-counted u (standing k q))

  -- whoever is found there stands there
  pub stood : (t : ℕ) → stands_in k q t ≡ true → Stood k q t
  unfolding stands_in
  stood t e =
      let task = stands-task k q t e in
      let there = (and-eq-true_iff _ (eqb (k.tasks.object ! t) q.object)).0 e in
      record {
        low = task.0;
        high = task.1;
        place = eqb-true _ _ ((and-eq-true_iff (within 1 tasks t) _).0 there.0).1;
        object = eqb-true _ _ there.1;
      }

  pub standing-in : (u : ℕ) → member u ((facts k).arrivals q) ≡ true → Stood k q u
  unfolding facts
  standing-in u m = stood u (member-select (stands_in k q) u k.arrivals m).0

  pub of-queue : (u : ℕ) → member u (queue_order k q) ≡ true → Stood k q u
  of-queue u m = standing-in u (sym (in_order u) ∙ m)

  pub front-stood : queue_front k q ≢ 0 → Stood k q (queue_front k q)
  front-stood h = stood (queue_front k q) (front-stands k q h)

  pub front-in : queue_front k q ≢ 0 → member (queue_front k q) (queue_order k q) ≡ true
  unfolding queue_front front queue_order
  front-in = go (queue_order k q)
    where
      go : (ts : List ℕ) → head_of ts ≢ 0 → member (head_of ts) ts ≡ true
      go [] h = absurd (h refl)
      go (t ∷ ts) h = or_left (eqb t t) _ (eq-eqb t t refl)

  pub front-none : queue_front k q ≡ 0 → queue_order k q ≡ []
  unfolding queue_front front queue_order
  front-none = go (queue_order k q) of-queue
    where
      go : (ts : List ℕ) → ((u : ℕ) → member u ts ≡ true → Stood k q u) → head_of ts ≡ 0 → ts ≡ []
      go [] h e = refl
      go (t ∷ ts) h e = absurd (omega (arith, (h t (or_left (eqb t t) _ (eq-eqb t t refl))).low))

  -- whoever stands there and is among the arrivals is found there
  pub in-queue : (u : ℕ) → Stood k q u → member u k.arrivals ≡ true → member u ((facts k).arrivals q) ≡ true
  unfolding facts
  in-queue u s m =
      member-counted u (standing k q)
      ∙ rw (select-swap (eqb u) (stands_in k q) k.arrivals, select-every (stands_in k q) (select (eqb u) k.arrivals) passes)
      (sym (member-counted u k.arrivals) ∙ m)
    where
      stands : stands_in k q u ≡ true
      stands = unfold stands_in in rw (le-leb 1 u s.low, le-leb u tasks s.high, eq-eqb _ _ s.place, eq-eqb _ _ s.object)

      passes : (v : ℕ) → member v (select (eqb u) k.arrivals) ≡ true → stands_in k q v ≡ true
      passes v n = ap (stands_in k q) (sym (eqb-true u v (member-select (eqb u) v k.arrivals n).0)) ∙ stands

pub running-stood : (k : Kernel) → running k ≢ 0 → Stood k ready_queue (running k)
running-stood k h = stood k ready_queue (running k) (running-stands k h)

-- ---- in a queue of started tasks nobody is missing, and nobody stands twice

module _ (k : Kernel) (g : Listing k.tasks.place k.arrivals) (q : Queue) where
  pub once-each : (u : ℕ) → occurrences u (queue_order k q) ≤ 1
  once-each u = go (ℕ_discrete (occurrences u (queue_order k q)) 0)
    where
      go : Dec (occurrences u (queue_order k q) ≡ 0) → occurrences u (queue_order k q) ≤ 1
      go (yes e) = omega arith
      go (no n) =
          let s = of-queue k q u (member-counted u (queue_order k q) ∙ lt-ltb 0 (occurrences u (queue_order k q)) (omega arith)) in
          let e = order-count k q (eqb u) ∙ ap length (select-swap (eqb u) (stands_in k q) k.arrivals) in
          omega (arith, length-select (stands_in k q) (select (eqb u) k.arrivals), (listed g).once u (λ z. omega arith))

  module _ (started : ready ≤ q.place) where
    pub queue-has : (u : ℕ) → 1 ≤ u → u ≤ tasks → k.tasks.place ! u ≡ q.place → k.tasks.object ! u ≡ q.object → member u (queue_order k q) ≡ true
    queue-has u low high p o =
        in_order k q u ∙ in-queue k q u (record { low = low; high = high; place = p; object = o }) (is-listed g u (λ z. omega arith) (omega arith))

    pub nobody-there : queue_front k q ≡ 0 → Each tasks (λ u. k.tasks.place ! u ≡ q.place → k.tasks.object ! u ≢ q.object)
    nobody-there e u low high p o = false≢true (sym (ap (member u) (front-none k q e)) ∙ queue-has u low high p o)
