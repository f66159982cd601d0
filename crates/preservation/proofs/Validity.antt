-- `Valid` is `Steady` with no task exiting, and no first sender that fits: both ways.
use mathlib.Core.Bool.{and-eq-true_iff}
use mathlib.Core.Logic.{⊎_elim}
use Rattle.model.proofs.Terms.{ℕ, ◌≤◌, ℕ_discrete, arith, ◌≡◌, ◌∙◌, refl, sym, subst, ◌≢◌, ◌⊎◌, inl, inr, true, false, false≢true, ◌&&◌, ◌||◌, eqb, eq-eqb, eqb-true, le-leb, le-ltb, ltb-false, tasks, mutexes, buffers, message_bytes, ◌!◌, queue, ready, locking, sending, receiving, getting, ceilinged, Kernel, stands_in, Lent, World, begun, lent_of, first_fits, part, pool_sum, above_ceiling, Each, TaskRange, MutexRange, BufferRange, PoolRange, BlockFlag, awaitable, Argument, Wait, Ceiling, Locking, Getting, Receiving, FirstSender, Outbox, Valid}
use Rattle.model.proofs.ListLaws.{or_elim, or_right, bool-ext}
use Rattle.queue.proofs.Listing.{listing-from, listing-to}
use Rattle.queue.proofs.Members.{stood}
use Rattle.invariant.specs.Rows.{TaskRow, task_rows, mutex_rows}
use Rattle.invariant.specs.Invariant.{TaskKept, Under, MutexesKept, BuffersKept, PoolsKept, Invariant, Steady}
use Rattle.invariant.proofs.Exchange.{numbers}

-- ---- "no base above a held or awaited ceiling"

-- what binds a task to a mutex's ceiling
abbrev pub Bound : Kernel → ℕ → ℕ → Type 0
Bound k t m = (k.mutexes.holder ! m ≡ t) ⊎ ((k.tasks.place ! t ≡ locking) × (k.tasks.object ! t ≡ m))

pub under-ceiling : (k : Kernel) (base t m : ℕ) → 1 ≤ t → t ≤ tasks → above_ceiling k base t m ≡ false → Bound k t m → Under (mutex_rows k.mutexes m) base
unfolding above_ceiling stands_in
under-ceiling k base t m low high e bound c =
    let either = or_right (eqb (k.mutexes.holder ! m) t) true refl in
    ltb-false base (k.mutexes.ceiling ! m)
    (⊎_elim (λ q. rw (eq-eqb _ ceilinged c, eq-eqb _ t q) at e)
    (λ q. rw (eq-eqb _ ceilinged c, le-leb 1 t low, le-leb t tasks high, eq-eqb _ locking q.0, eq-eqb _ m q.1, either) at e) bound)

below-ceiling : (k : Kernel) (t m : ℕ) → (Bound k t m → Under (mutex_rows k.mutexes m) (k.tasks.base ! t)) → Ceiling k t m
unfolding Ceiling above_ceiling
below-ceiling k t m h =
    bool-ext _ false
    (λ e.
    let x = (and-eq-true_iff (eqb (k.mutexes.attribute ! m) ceilinged && (eqb (k.mutexes.holder ! m) t || stands_in k (queue locking m) t)) _).0 e in
    let y = (and-eq-true_iff (eqb (k.mutexes.attribute ! m) ceilinged) _).0 x.0 in
    let waits : stands_in k (queue locking m) t ≡ true → Bound k t m = λ q. let f = stood k (queue locking m) t q in inr (f.place, f.object) in
    let bound = ⊎_elim (λ q. inl (eqb-true _ t q)) waits (or_elim (eqb (k.mutexes.holder ! m) t) _ y.1) in
    sym (le-ltb _ _ (h bound (eqb-true _ ceilinged y.0))) ∙ x.1)
    (λ q. absurd (false≢true q))

-- ---- from `Valid`

module _ (x : Lent) (v : Valid x) where
  abbrev k : Kernel
  k = x.kernel

  abbrev rows : ℕ → TaskRow
  rows = task_rows k.tasks

  task-kept : (t : ℕ) → 1 ≤ t → t ≤ tasks → TaskKept (part message_bytes t x.outbox) (rows t)
  unfolding TaskRange Wait Argument Outbox
  task-kept t i j =
      record {
        range = v.is_task_range t i j;
        time = ⊎_elim (λ g. inl g) (λ g. inr (g.0, g.2)) (v.is_wait t i j);
        silent = λ d. ⊎_elim (λ g. absurd (d g.0)) (λ g. g.1) (v.is_argument t i j);
        boxed = v.is_outbox t i j;
      }

  -- the object of a wait is there
  awaits : (t : ℕ) → 1 ≤ t → t ≤ tasks → locking ≤ k.tasks.place ! t → awaitable k (k.tasks.place ! t) ! (k.tasks.object ! t) ≡ 1
  unfolding Wait
  awaits t i j h = ⊎_elim (λ g. absurd (omega (arith, g.0))) (λ g. g.1) (v.is_wait t i j)

  mutexes-kept : MutexesKept 0 rows k.mutexes
  unfolding MutexRange Ceiling Locking awaitable
  mutexes-kept =
      record {
        lists = v.is_mutex_lists;
        shape = λ m i j. ⊎_elim (λ g. inl g) (λ g. inr (g.0, g.1, g.2)) (v.is_mutex_range m i j);
        held = λ m i j z _.
            let s : ready ≤ k.tasks.place ! (k.mutexes.holder ! m) =
            ⊎_elim (λ g. absurd (z g.3)) (λ g. ⊎_elim (λ e. absurd (z e)) (λ h. h) g.3) (v.is_mutex_range m i j) in
            let n = numbers v.is_task_lists.place (λ (e : k.tasks.place ! (k.mutexes.holder ! m) ≡ 0). omega arith) in
            record { started = s; under = under-ceiling k _ _ m n.0 n.1 (v.is_ceiling _ n.0 n.1 m i j) (inl refl) };
        waits = λ t i j q.
            let l = v.is_locking t i j q in
            let e : k.mutexes.exists ! (k.tasks.object ! t) ≡ 1 = rw q at (awaits t i j (omega arith)) in
            let n = numbers v.is_mutex_lists.exists (λ (z : k.mutexes.exists ! (k.tasks.object ! t) ≡ 0). omega arith) in
            record { there = e; taken = l.1; other = l.0; under = under-ceiling k _ t _ i j (v.is_ceiling t i j _ n.0 n.1) (inr (q, refl)) };
      }

  buffers-kept : BuffersKept rows k.buffers x.store
  unfolding BufferRange Argument Receiving awaitable
  buffers-kept =
      record {
        lists = v.is_buffer_lists;
        size = v.is_lengths.store;
        shape = v.is_buffer_range;
        layout = v.is_layout;
        sends = λ t i j q. record { there = rw q at (awaits t i j (omega arith)); sized = ⊎_elim (λ g. g.1) (λ g. absurd (g.0 q)) (v.is_argument t i j) };
        receives = λ t i j q. record { there = rw q at (awaits t i j (omega arith)); empty = (v.is_receiving t i j q).0 };
        apart = λ t i j s i' j' q. (v.is_receiving t i j q).1 s i' j';
      }

  pools-kept : PoolsKept rows k.pools
  unfolding PoolRange BlockFlag pool_sum Getting awaitable
  pools-kept =
      record {
        lists = v.is_pool_lists;
        size = v.is_lengths.taken;
        shape = v.is_pool_range;
        flags = v.is_block_flag;
        room = v.is_pool_sum;
        waits = λ t i j q. record { there = rw q at (awaits t i j (omega arith)); none_free = v.is_getting t i j q };
      }

  pub valid-steady : Steady 0 (begun x)
  valid-steady =
      record {
        invariant =
            record {
              of_tasks =
                  record {
                    lists = v.is_task_lists;
                    listing = listing-from k v.is_task_lists.place.long v.is_lengths.arrivals v.is_arrivals;
                    size = v.is_lengths.outbox;
                    each = task-kept;
                  };
              of_mutexes = mutexes-kept;
              of_buffers = buffers-kept;
              of_pools = pools-kept;
            };
        priorities = v.is_priorities;
        bitmap = v.is_bitmap;
      }

-- ---- to `Valid`

module _ (w : World) (s : Steady 0 w) where
  abbrev j : Kernel
  j = w.kernel

  abbrev inv : Invariant 0 j w.store w.outbox
  inv = s.invariant

  -- a wait, by the kind of its queue
  waits : Each tasks (Wait j)
  unfolding Wait awaitable
  waits t low high =
      ⊎_elim (λ g. inl g) (λ g. inr (g.0, there g.0 (ℕ_discrete _ locking) (ℕ_discrete _ getting) (ℕ_discrete _ sending), g.1))
      (inv.of_tasks.each t low high).time
    where
      there : locking ≤ j.tasks.place ! t → Dec (j.tasks.place ! t ≡ locking) → Dec (j.tasks.place ! t ≡ getting) → Dec (j.tasks.place ! t ≡ sending)
          → awaitable j (j.tasks.place ! t) ! (j.tasks.object ! t) ≡ 1
      there h (yes e) d c = rw e (inv.of_mutexes.waits t low high e).there
      there h (no n) (yes e) c = rw e (inv.of_pools.waits t low high e).there
      there h (no n) (no m) (yes e) = rw e (inv.of_buffers.sends t low high e).there
      there h (no n) (no m) (no c) =
          let e : j.tasks.place ! t ≡ receiving = ⊎_elim (λ g. absurd (omega (arith, g.0))) (λ g. omega (arith, g.0)) (inv.of_tasks.each t low high).range in
          rw e (inv.of_buffers.receives t low high e).there

  arguments : Each tasks (Argument j)
  unfolding Argument
  arguments t low high =
      elim (ℕ_discrete (j.tasks.place ! t) sending) [ yes e ↦ inl (e, (inv.of_buffers.sends t low high e).sized) | no d ↦ inr (d, (inv.of_tasks.each t low high).silent d) ]

  mutex-ranges : Each mutexes (MutexRange j)
  unfolding MutexRange
  mutex-ranges m low high =
      let holder : (j.mutexes.holder ! m ≡ 0) ⊎ (ready ≤ j.tasks.place ! (j.mutexes.holder ! m)) =
      elim (ℕ_discrete (j.mutexes.holder ! m) 0) [ yes e ↦ inl e | no d ↦ inr (inv.of_mutexes.held m low high d d).started ] in
      ⊎_elim (λ g. inl g) (λ g. inr (g.0, g.1, g.2, holder)) (inv.of_mutexes.shape m low high)

  ceilings : Each tasks (λ t. Each mutexes (Ceiling j t))
  ceilings t low high m low' high' =
      below-ceiling j t m
      (⊎_elim
      (λ e.
      let d : j.mutexes.holder ! m ≢ 0 = λ z. omega arith in
      subst (λ (u : ℕ). Under (mutex_rows j.mutexes m) (j.tasks.base ! u)) e (inv.of_mutexes.held m low' high' d d).under)
      (λ e. subst (λ (n : ℕ). Under (mutex_rows j.mutexes n) (j.tasks.base ! t)) e.1 (inv.of_mutexes.waits t low high e.0).under))

  pub steady-valid : Each buffers (λ b. first_fits j b ≡ false) → Valid (lent_of w)
  unfolding TaskRange BufferRange PoolRange BlockFlag pool_sum Locking Getting Receiving FirstSender Outbox
  steady-valid none-fits =
      record {
        is_task_lists = inv.of_tasks.lists;
        is_mutex_lists = inv.of_mutexes.lists;
        is_buffer_lists = inv.of_buffers.lists;
        is_pool_lists = inv.of_pools.lists;
        is_lengths = record { arrivals = inv.of_tasks.listing.size; taken = inv.of_pools.size; store = inv.of_buffers.size; outbox = inv.of_tasks.size };
        is_task_range = λ t low high. (inv.of_tasks.each t low high).range;
        is_mutex_range = mutex-ranges;
        is_buffer_range = inv.of_buffers.shape;
        is_pool_range = inv.of_pools.shape;
        is_block_flag = inv.of_pools.flags;
        is_pool_sum = inv.of_pools.room;
        is_argument = arguments;
        is_wait = waits;
        is_arrivals = listing-to j inv.of_tasks.listing;
        is_priorities = s.priorities;
        is_bitmap = s.bitmap;
        is_ceiling = ceilings;
        is_locking = λ t low high q. let l = inv.of_mutexes.waits t low high q in (l.other, l.taken);
        is_getting = λ t low high q. (inv.of_pools.waits t low high q).none_free;
        is_receiving = λ t low high q. ((inv.of_buffers.receives t low high q).empty, λ u low' high'. inv.of_buffers.apart t low high u low' high' q);
        is_first_sender = none-fits;
        is_layout = inv.of_buffers.layout;
        is_outbox = λ t low high. (inv.of_tasks.each t low high).boxed;
      }
