-- A task's row changes: it goes from one place to another, gets another base or another time, is created or deleted; or the task arrives anew where it is.
use mathlib.Core.Logic.{⊎_elim}
use Rattle.model.proofs.Terms.{ℕ, ◌-◌, ◌≤◌, ◌<◌, arith, ◌≡◌, ◌∙◌, refl, sym, subst, ◌≢◌, ◌⊎◌, inl, inr, List, set, drop, set-get_or, tasks, mutexes, priorities, message_bytes, ◌!◌, zeros, Queue, queue, absent, dormant, ready, locking, sending, receiving, getting, Kernel, slot, with_tasks, with_arrivals, with_place, with_initial, with_base, with_current, with_left, arrived, part, Each, From}
use Rattle.queue.proofs.Listing.{Listing, arrived-listing}
use Rattle.invariant.specs.Rows.{TaskRow, task_rows, mutex_rows, buffer_rows, pool_rows, with_task_row, open_tasks}
use Rattle.invariant.specs.Invariant.{Lasting, TaskKept, Under, Holding, Locks, Sends, Receives, Gets, Invariant}
use Rattle.invariant.proofs.Parts.{TaskFits, Boxed, task-exchanged}

-- a kernel in which one task has another row, and the arrivals may be others
unfoldable pub with_row : Kernel → ℕ → TaskRow → ℕ → List ℕ → Kernel
with_row k t r current ts = with_arrivals (with_tasks k (with_task_row k.tasks t r current)) ts

-- the row of a task that goes to a queue, with the argument of its wait and the time left
abbrev pub moved_row : TaskRow → Queue → ℕ → ℕ → TaskRow
moved_row r q argument left = record { place = q.place; object = q.object; argument = argument; initial = r.initial; base = r.base; left = left }

unfoldable pub moved : Kernel → ℕ → Queue → ℕ → ℕ → List ℕ → Kernel
unfolding with_row
moved k t q argument left ts = with_row k t (moved_row (task_rows k.tasks t) q argument left) (k.tasks.current ! t) ts

-- what a wait in a queue asks of the object there
pub record Meets (k : Kernel) (t : ℕ) (q : Queue) (argument : ℕ) : Type 0 where
  pub locks : q.place ≡ locking → Locks (mutex_rows k.mutexes q.object) t (k.tasks.base ! t)
  pub sends : q.place ≡ sending → Sends (buffer_rows k.buffers q.object) argument × Each tasks (λ s. k.tasks.place ! s ≡ receiving → q.object ≢ k.tasks.object ! s)
  pub receives : q.place ≡ receiving → Receives (buffer_rows k.buffers q.object) × Each tasks (λ s. k.tasks.place ! s ≡ sending → k.tasks.object ! s ≢ q.object)
  pub gets : q.place ≡ getting → Gets (pool_rows k.pools q.object) (λ b. k.pools.taken ! slot q.object b)

-- no wait asks nothing
pub idle : (k : Kernel) (t : ℕ) (q : Queue) (argument : ℕ) → q.place < locking → Meets k t q argument
idle k t q argument h =
    record { locks = λ e. absurd (omega arith); sends = λ e. absurd (omega arith); receives = λ e. absurd (omega arith); gets = λ e. absurd (omega arith) }

-- a wait asks what its own kind of queue asks
module _ (k : Kernel) (t n : ℕ) where
  pub meets-mutex : Locks (mutex_rows k.mutexes n) t (k.tasks.base ! t) → Meets k t (queue locking n) 0
  meets-mutex l = record { locks = λ e. l; sends = λ e. absurd (omega arith); receives = λ e. absurd (omega arith); gets = λ e. absurd (omega arith) }

  pub meets-sender : (size : ℕ) → Sends (buffer_rows k.buffers n) size → Each tasks (λ s. k.tasks.place ! s ≡ receiving → n ≢ k.tasks.object ! s) → Meets k t (queue sending n) size
  meets-sender size b alone = record { locks = λ e. absurd (omega arith); sends = λ e. (b, alone); receives = λ e. absurd (omega arith); gets = λ e. absurd (omega arith) }

  pub meets-receiver : Receives (buffer_rows k.buffers n) → Each tasks (λ s. k.tasks.place ! s ≡ sending → k.tasks.object ! s ≢ n) → Meets k t (queue receiving n) 0
  meets-receiver b alone = record { locks = λ e. absurd (omega arith); sends = λ e. absurd (omega arith); receives = λ e. (b, alone); gets = λ e. absurd (omega arith) }

  pub meets-pool : Gets (pool_rows k.pools n) (λ b. k.pools.taken ! slot n b) → Meets k t (queue getting n) 0
  meets-pool p = record { locks = λ e. absurd (omega arith); sends = λ e. absurd (omega arith); receives = λ e. absurd (omega arith); gets = λ e. p }

-- the time of a wait, or of none
abbrev pub Time : Queue → ℕ → Type 0
Time q left = ((q.place < locking) × (q.object ≡ 0) × (left ≡ 0)) ⊎ ((locking ≤ q.place) × Lasting left)

-- a task that is not there, or dormant with a priority
abbrev pub Unstarted : ℕ → ℕ → Type 0
Unstarted place p = ((place ≡ absent) × (p ≡ 0)) ⊎ ((place ≡ dormant) × From 1 priorities p)

module _ {exiting : ℕ} {k : Kernel} {store outbox : List ℕ} (v : Invariant exiting k store outbox) (t : ℕ) (low : 1 ≤ t) (high : t ≤ tasks) where
  abbrev row : TaskRow
  row = task_rows k.tasks t

  own : TaskKept (part message_bytes t outbox) row
  own = v.of_tasks.each t low high

  -- the outbox as it is
  pub same-box : Boxed t outbox outbox
  same-box = record { size = refl; other = λ u i d. refl }

  -- a task that is there has its entries in range
  there : dormant ≤ row.place → From dormant getting row.place × From 1 priorities row.initial × From 1 priorities row.base
  there h = ⊎_elim (λ g. absurd (omega (arith, g.0))) (λ g. g) own.range

  -- what it means to hold a mutex
  holding : Each mutexes (λ m. k.mutexes.holder ! m ≡ t → t ≢ exiting → Holding (mutex_rows k.mutexes m) row.place row.base)
  holding m i j q n =
      subst (λ (u : ℕ). Holding (mutex_rows k.mutexes m) (k.tasks.place ! u) (k.tasks.base ! u)) q
      (v.of_mutexes.held m i j (λ (z : k.mutexes.holder ! m ≡ 0). omega arith) (λ o. n (sym q ∙ o)))

  pub moves : (q : Queue) (argument left : ℕ) {ts outbox' : List ℕ} → dormant ≤ k.tasks.place ! t → From dormant getting q.place → (ready ≤ q.place) ⊎ (t ≡ exiting)
      → Meets k t q argument → Time q left → (q.place ≢ sending → argument ≡ 0) → Listing (set k.tasks.place t q.place) ts
      → Boxed t outbox outbox' → drop argument (part message_bytes t outbox') ≡ zeros (message_bytes - argument)
      → Invariant exiting (moved k t q argument left ts) store outbox'
  unfolding moved with_row
  moves q argument left was place stays meets time silent listing boxed bytes =
      task-exchanged v t low high (moved_row row q argument left) (k.tasks.current ! t)
      (record {
        holds = λ m i j e n. record { started = ⊎_elim (λ h. h) (λ o. absurd (n o)) stays; under = (holding m i j e n).under };
        locks = meets.locks;
        sends = λ e. (meets.sends e).0;
        receives = λ e. (meets.receives e).0;
        apart = λ s i j. ((λ e f. (meets.receives e).1 s i j f), (λ e f. (meets.sends f).1 s i j e));
        gets = meets.gets;
      })
      listing (record { range = inr (place, (there was).1, (there was).2); time = time; silent = silent; boxed = bytes }) boxed

  -- another base, another time: the task stays where it is
  module _ (base left : ℕ) where
    abbrev pub stayed_row : TaskRow
    stayed_row = record { place = row.place; object = row.object; argument = row.argument; initial = row.initial; base = base; left = left }

    stays : Each mutexes (λ m. k.mutexes.holder ! m ≡ t → t ≢ exiting → Under (mutex_rows k.mutexes m) base)
        → (row.place ≡ locking → Under (mutex_rows k.mutexes row.object) base) → TaskFits exiting k t stayed_row
    stays held awaited =
        record {
          holds = λ m i j q n. record { started = (holding m i j q n).started; under = held m i j q n };
          locks = λ e. let x = v.of_mutexes.waits t low high e in record { there = x.there; taken = x.taken; other = x.other; under = awaited e };
          sends = v.of_buffers.sends t low high;
          receives = v.of_buffers.receives t low high;
          apart = λ s i j. (v.of_buffers.apart t low high s i j, v.of_buffers.apart s i j t low high);
          gets = v.of_pools.waits t low high;
        }

  -- the base of a task that is there, not above a ceiling that binds it
  pub based : (base : ℕ) → dormant ≤ k.tasks.place ! t → From 1 priorities base
      → Each mutexes (λ m. k.mutexes.holder ! m ≡ t → t ≢ exiting → Under (mutex_rows k.mutexes m) base)
      → (row.place ≡ locking → Under (mutex_rows k.mutexes row.object) base) → Invariant exiting (with_base k t base) store outbox
  unfolding open_tasks
  based base was range held awaited =
      rw (set-get_or, set-get_or, set-get_or, set-get_or, set-get_or, set-get_or) at
      (task-exchanged v t low high (stayed_row base row.left) (k.tasks.current ! t) {ts = k.arrivals} (stays base row.left held awaited)
      (rw set-get_or v.of_tasks.listing)
      (record { range = inr ((there was).0, (there was).1, range); time = own.time; silent = own.silent; boxed = own.boxed }) same-box)

  -- a started task arrives anew where it stands
  pub arrived-anew : ready ≤ k.tasks.place ! t → Invariant exiting (with_arrivals k (arrived t k.arrivals)) store outbox
  unfolding open_tasks
  arrived-anew h =
      let x = v.of_tasks in
      let list = rw (set-get_or k.tasks.place t 0) at (arrived-listing x.listing t (k.tasks.place ! t) low high h) in
      record {
        of_tasks = record { lists = x.lists; listing = list; size = x.size; each = x.each };
        of_mutexes = v.of_mutexes;
        of_buffers = v.of_buffers;
        of_pools = v.of_pools;
      }

  -- the time of a wait
  pub timed : (left : ℕ) → locking ≤ row.place → Lasting left → Invariant exiting (with_left k t left) store outbox
  unfolding open_tasks
  timed left waits good =
      rw (set-get_or, set-get_or, set-get_or, set-get_or, set-get_or, set-get_or) at
      (task-exchanged v t low high (stayed_row row.base left) (k.tasks.current ! t) {ts = k.arrivals}
      (stays row.base left (λ m i j q n. (holding m i j q n).under) (λ e. (v.of_mutexes.waits t low high e).under)) (rw set-get_or v.of_tasks.listing)
      (record { range = own.range; time = inr (waits, good); silent = own.silent; boxed = own.boxed }) same-box)

  -- a task that is not started is created or deleted
  module _ (was : row.place < ready) where
    pub holds-nothing : t ≢ exiting → Each mutexes (λ m. k.mutexes.holder ! m ≢ t)
    holds-nothing n m i j q = omega (arith, (holding m i j q n).started)

    pub retasked : (place p : ℕ) → t ≢ exiting → Unstarted place p → Listing (set k.tasks.place t place) k.arrivals
        → Invariant exiting (with_current (with_base (with_initial (with_place k t place) t p) t p) t p) store outbox
    unfolding open_tasks
    retasked place p n good listing =
        let small : place < ready = ⊎_elim (λ g. omega (arith, g.0)) (λ g. omega (arith, g.0)) good in
        rw (set-get_or, set-get_or, set-get_or) at
        (task-exchanged v t low high (record { place = place; object = row.object; argument = row.argument; initial = p; base = p; left = row.left }) p
        (record {
          holds = λ m i j q o. absurd (holds-nothing n m i j q);
          locks = λ e. absurd (omega arith);
          sends = λ e. absurd (omega arith);
          receives = λ e. absurd (omega arith);
          apart = λ u i j. ((λ e f. absurd (omega arith)), (λ e f. absurd (omega arith)));
          gets = λ e. absurd (omega arith);
        })
        listing
        (record {
          range = ⊎_elim (λ g. inl (g.0, g.1, g.1)) (λ g. inr (omega (arith, g.0), g.1, g.1)) good;
          time = ⊎_elim (λ g. inl (omega arith, g.1, g.2)) (λ g. absurd (omega (arith, g.0))) own.time;
          silent = λ e. own.silent (λ (z : row.place ≡ sending). omega arith);
          boxed = own.boxed;
        })
        same-box)
