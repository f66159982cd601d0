-- What is left to show where one row of one kind is exchanged: the new row's own clauses, and what it means to those that look at it. All else stays.
use mathlib.Core.Logic.{⊎_elim}
use Rattle.model.proofs.Terms.{ℕ, zero, suc, ◌+◌, ◌*◌, ◌≤◌, ◌<◌, ℕ_discrete, arith, ◌≡◌, ◌∙◌, refl, sym, ap, subst, ◌≢◌, ◌⊎◌, List, map, length, set, get_or-set_other, tasks, mutexes, buffers, pools, blocks, message_bytes, pool_bytes, ◌!◌, count_from, up_to, sum, locking, sending, receiving, getting, Kernel, Pools, slot, with_bitmap, with_tasks, with_arrivals, with_mutexes, with_buffers, with_pools, effectives, recompute, part, region, Each, From, TaskLists, Layout}
use Rattle.model.proofs.ListLaws.{map-agree}
use Rattle.queue.proofs.Listing.{Listing}
use Rattle.invariant.specs.Rows.{TaskRow, MutexRow, BufferRow, PoolRow, task_rows, mutex_rows, buffer_rows, pool_rows, with_task_row, with_mutex_row, with_buffer_row, with_pool_row, open_tasks}
use Rattle.invariant.specs.Invariant.{TaskKept, TasksKept, MutexShape, Holding, HeldBy, Locks, BufferShape, Sends, Receives, Apart, PoolShape, Gets, Invariant}
use Rattle.invariant.proofs.Exchange.{Exchanged, at_row, each_row, numbers, set_here, task-row, task-lists, mutex-row, mutex-lists, buffer-row, buffer-lists, pool-row, pool-lists}

-- a task's new row, to the parts that look at it
pub record TaskFits (exiting : ℕ) (k : Kernel) (t : ℕ) (r : TaskRow) : Type 0 where
  pub holds : Each mutexes (λ m. k.mutexes.holder ! m ≡ t → t ≢ exiting → Holding (mutex_rows k.mutexes m) r.place r.base)
  pub locks : r.place ≡ locking → Locks (mutex_rows k.mutexes r.object) t r.base
  pub sends : r.place ≡ sending → Sends (buffer_rows k.buffers r.object) r.argument
  pub receives : r.place ≡ receiving → Receives (buffer_rows k.buffers r.object)
  pub apart : Each tasks (λ s. Apart r (task_rows k.tasks s) × Apart (task_rows k.tasks s) r)
  pub gets : r.place ≡ getting → Gets (pool_rows k.pools r.object) (λ b. k.pools.taken ! slot r.object b)

-- an outbox in which one task's part is exchanged
pub record Boxed (t : ℕ) (outbox outbox' : List ℕ) : Type 0 where
  pub size : length outbox' ≡ length outbox
  pub other : (u : ℕ) → 1 ≤ u → u ≢ t → part message_bytes u outbox' ≡ part message_bytes u outbox

-- sums that differ in one term
sum-but-one : (f g : ℕ → ℕ) (p a n : ℕ) → a ≤ p → p < a + n → ((q : ℕ) → q ≢ p → f q ≡ g q)
    → sum (map f (count_from a n)) + g p ≡ sum (map g (count_from a n)) + f p
sum-but-one f g p a zero i j h = absurd (omega arith)
sum-but-one f g p a (suc n) i j h =
    elim (ℕ_discrete a p) [
      | yes e ↦ omega (arith, ap sum (map-agree f g (suc a) n (λ q x y. h q (λ (z : q ≡ p). omega arith))), ap f e, ap g e)
      | no d ↦ omega (arith, sum-but-one f g p (suc a) n (omega arith) (omega arith) h, h a d)
    ]

module _ {exiting : ℕ} {k : Kernel} {store outbox : List ℕ} (v : Invariant exiting k store outbox) where
  abbrev rows : ℕ → TaskRow
  rows = task_rows k.tasks

  -- priorities recomputed: no clause looks at them
  pub recomputed : Invariant exiting (recompute k) store outbox
  unfolding recompute effectives open_tasks
  recomputed =
      let x = v.of_tasks in
      let l = x.lists in
      let lists : TaskLists (recompute k).tasks =
      record { place = l.place; object = l.object; argument = l.argument; initial = l.initial; base = l.base; current = record { long = refl; none_zero = refl }; left = l.left } in
      let kept : TasksKept (recompute k).tasks k.arrivals outbox = record { lists = lists; listing = x.listing; size = x.size; each = x.each } in
      record { of_tasks = kept; of_mutexes = v.of_mutexes; of_buffers = v.of_buffers; of_pools = v.of_pools }

  -- other bits: nor at these
  pub with-bits : (word : ℕ) → Invariant exiting (with_bitmap k word) store outbox
  with-bits word = record { of_tasks = v.of_tasks; of_mutexes = v.of_mutexes; of_buffers = v.of_buffers; of_pools = v.of_pools }

  -- another task is exiting, or none any more
  pub exiting-exchanged : (other : ℕ) → Each mutexes (λ m. HeldBy other rows (mutex_rows k.mutexes m)) → Invariant other k store outbox
  exiting-exchanged other h =
      let x = v.of_mutexes in
      record { of_tasks = v.of_tasks; of_mutexes = record { lists = x.lists; shape = x.shape; held = h; waits = x.waits }; of_buffers = v.of_buffers; of_pools = v.of_pools }

  module _ (t : ℕ) (low : 1 ≤ t) (high : t ≤ tasks) (r : TaskRow) (c : ℕ) where
    new_row : Exchanged rows (task_rows (with_task_row k.tasks t r c)) t r
    new_row = task-row k.tasks v.of_tasks.lists t r c high

    pub task-exchanged : {ts outbox' : List ℕ} → TaskFits exiting k t r → Listing (set k.tasks.place t r.place) ts
        → TaskKept (part message_bytes t outbox') r → Boxed t outbox outbox'
        → Invariant exiting (with_arrivals (with_tasks k (with_task_row k.tasks t r c)) ts) store outbox'
    unfolding open_tasks
    task-exchanged {outbox'} f listing own boxed =
        record {
          of_tasks =
              record {
                lists = task-lists k.tasks v.of_tasks.lists t r c low;
                listing = listing;
                size = boxed.size ∙ v.of_tasks.size;
                each = λ u i j. at_row new_row (TaskKept (part message_bytes u outbox')) u (λ q. subst (λ (n : ℕ). TaskKept (part message_bytes n outbox') r) (sym q) own)
                    (λ d. subst (λ (box : List ℕ). TaskKept box (rows u)) (sym (boxed.other u i d)) (v.of_tasks.each u i j));
              };
          of_mutexes =
              let x = v.of_mutexes in
              record {
                lists = x.lists;
                shape = x.shape;
                held = λ m i j z n. at_row new_row (λ (s : TaskRow). Holding (mutex_rows k.mutexes m) s.place s.base) (k.mutexes.holder ! m)
                    (λ q. f.holds m i j q (λ o. n (q ∙ o))) (λ d. x.held m i j z n);
                waits = each_row new_row tasks (λ u s. s.place ≡ locking → Locks (mutex_rows k.mutexes s.object) u s.base) x.waits f.locks;
              };
          of_buffers =
              let x = v.of_buffers in
              record {
                lists = x.lists;
                size = x.size;
                shape = x.shape;
                layout = x.layout;
                sends = each_row new_row tasks (λ u s. s.place ≡ sending → Sends (buffer_rows k.buffers s.object) s.argument) x.sends f.sends;
                receives = each_row new_row tasks (λ u s. s.place ≡ receiving → Receives (buffer_rows k.buffers s.object)) x.receives f.receives;
                apart = λ u i j s i' j'. at_row new_row (λ (a : TaskRow). Apart a (task_rows (with_task_row k.tasks t r c) s)) u
                    (λ q. at_row new_row (Apart r) s (λ e y z. absurd (omega arith)) (λ d. (f.apart s i' j').0))
                    (λ d. at_row new_row (Apart (rows u)) s (λ e. (f.apart u i j).1) (λ e. x.apart u i j s i' j'));
              };
          of_pools =
              let x = v.of_pools in
              record {
                lists = x.lists;
                size = x.size;
                shape = x.shape;
                flags = x.flags;
                room = x.room;
                waits = each_row new_row tasks (λ u s. s.place ≡ getting → Gets (pool_rows k.pools s.object) (λ b. k.pools.taken ! slot s.object b)) x.waits f.gets;
              };
        }

  module _ (m : ℕ) (low : 1 ≤ m) (high : m ≤ mutexes) (r : MutexRow) where
    pub mutex-exchanged : MutexShape r → HeldBy exiting rows r
        → Each tasks (λ u. (rows u).place ≡ locking → (rows u).object ≡ m → Locks r u (rows u).base)
        → Invariant exiting (with_mutexes k (with_mutex_row k.mutexes m r)) store outbox
    unfolding with_mutexes
    mutex-exchanged shape holds waits =
        let x = v.of_mutexes in
        let e = mutex-row k.mutexes x.lists m r high in
        record {
          of_tasks = v.of_tasks;
          of_mutexes =
              record {
                lists = mutex-lists k.mutexes x.lists m r low;
                shape = each_row e mutexes (λ n s. MutexShape s) x.shape shape;
                held = each_row e mutexes (λ n s. HeldBy exiting rows s) x.held holds;
                waits = λ u i j q. at_row e (λ (s : MutexRow). Locks s u (rows u).base) (rows u).object (waits u i j q) (λ d. x.waits u i j q);
              };
          of_buffers = v.of_buffers;
          of_pools = v.of_pools;
        }

  module _ (b : ℕ) (low : 1 ≤ b) (high : b ≤ buffers) (r : BufferRow) (store' : List ℕ) where
    pub buffer-exchanged : BufferShape r → length store' ≡ length store → Layout r.maxmsz r.used (region b store')
        → ((c : ℕ) → 1 ≤ c → c ≢ b → region c store' ≡ region c store)
        → Each tasks (λ u. (rows u).place ≡ sending → (rows u).object ≡ b → Sends r (rows u).argument)
        → Each tasks (λ u. (rows u).place ≡ receiving → (rows u).object ≡ b → Receives r)
        → Invariant exiting (with_buffers k (with_buffer_row k.buffers b r)) store' outbox
    unfolding with_buffers
    buffer-exchanged shape size layout regions sends receives =
        let x = v.of_buffers in
        let e = buffer-row k.buffers x.lists b r high in
        record {
          of_tasks = v.of_tasks;
          of_mutexes = v.of_mutexes;
          of_buffers =
              record {
                lists = buffer-lists k.buffers x.lists b r low;
                size = size ∙ x.size;
                shape = each_row e buffers (λ c s. BufferShape s) x.shape shape;
                layout = λ c i j. at_row e (λ (s : BufferRow). Layout s.maxmsz s.used (region c store')) c
                    (λ q. subst (λ (n : ℕ). Layout r.maxmsz r.used (region n store')) (sym q) layout)
                    (λ d. subst (Layout (k.buffers.maxmsz ! c) (k.buffers.used ! c)) (sym (regions c i d)) (x.layout c i j));
                sends = λ u i j q. at_row e (λ (s : BufferRow). Sends s (rows u).argument) (rows u).object (sends u i j q) (λ d. x.sends u i j q);
                receives = λ u i j q. at_row e Receives (rows u).object (receives u i j q) (λ d. x.receives u i j q);
                apart = x.apart;
              };
          of_pools = v.of_pools;
        }

  module _ (p : ℕ) (low : 1 ≤ p) (high : p ≤ pools) (r : PoolRow) (taken' : List ℕ) where
    abbrev old : Pools
    old = k.pools

    pub pool-exchanged : PoolShape r → length taken' ≡ length old.taken
        → ((b : ℕ) → b ≤ blocks → (taken' ! slot p b ≡ 0) ⊎ ((taken' ! slot p b ≡ 1) × From 1 r.count b))
        → ((q b : ℕ) → q ≢ p → b ≤ blocks → taken' ! slot q b ≡ old.taken ! slot q b)
        → sum (map (λ q. old.count ! q * old.size ! q) (up_to pools)) + r.count * r.size ≤ pool_bytes + old.count ! p * old.size ! p
        → Each tasks (λ u. (rows u).place ≡ getting → (rows u).object ≡ p → Gets r (λ b. taken' ! slot p b))
        → Invariant exiting (with_pools k (with_pool_row k.pools p r taken')) store outbox
    unfolding with_pools
    pool-exchanged shape size flags others room waits =
        let x = v.of_pools in
        let e = pool-row old x.lists p r taken' high in
        let f : ℕ → ℕ = λ q. old.count ! q * old.size ! q in
        let g : ℕ → ℕ = λ q. set old.count p r.count ! q * set old.size p r.size ! q in
        let others_same : (q : ℕ) → q ≢ p → f q ≡ g q = λ q d. rw (get_or-set_other old.count p q r.count 0 d, get_or-set_other old.size p q r.size 0 d) in
        let here : g p ≡ r.count * r.size = rw (set_here x.lists.count high r.count, set_here x.lists.size high r.size) in
        record {
          of_tasks = v.of_tasks;
          of_mutexes = v.of_mutexes;
          of_buffers = v.of_buffers;
          of_pools =
              record {
                lists = pool-lists old x.lists p r taken' low;
                size = size ∙ x.size;
                shape = each_row e pools (λ q s. PoolShape s) x.shape shape;
                flags = λ q b i j. at_row e (λ (s : PoolRow). (taken' ! slot q b ≡ 0) ⊎ ((taken' ! slot q b ≡ 1) × From 1 s.count b)) q
                    (λ z. subst (λ (n : ℕ). (taken' ! slot n b ≡ 0) ⊎ ((taken' ! slot n b ≡ 1) × From 1 r.count b)) (sym z) (flags b j))
                    (λ d. rw (others q b d j) (x.flags q b i j));
                room = omega (arith, sum-but-one f g p 1 pools low (omega arith) others_same, here);
                waits = λ u i j q. at_row e (λ (s : PoolRow). Gets s (λ b. taken' ! slot (rows u).object b)) (rows u).object
                    (λ z. subst (λ (n : ℕ). Gets r (λ b. taken' ! slot n b)) (sym z) (waits u i j q z))
                    (λ d. still u d (x.waits u i j q));
              };
        }
      where
        still : (u : ℕ) → (rows u).object ≢ p → Gets (pool_rows old (rows u).object) (λ b. old.taken ! slot (rows u).object b)
            → Gets (pool_rows old (rows u).object) (λ b. taken' ! slot (rows u).object b)
        still u d g =
            let o = (rows u).object in
            let n = numbers v.of_pools.lists.exists (λ (z : old.exists ! o ≡ 0). let y = g.there in omega arith) in
            let few : old.count ! o ≤ blocks = ⊎_elim (λ s. omega (arith, s.2)) (λ s. s.2.1) (v.of_pools.shape o n.0 n.1) in
            record { there = g.there; none_free = λ b i j. rw (others o b d (omega arith)) (g.none_free b i j) }
