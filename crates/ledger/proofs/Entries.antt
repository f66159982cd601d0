-- An entry of the ledger is exchanged with the row that it stands for.
use Rattle.model.proofs.Terms.{ℕ, suc, ◌≤◌, ◌<◌, arith, ◌≢◌, ◌≡◌, ◌∙◌, refl, ap, fun_ext, true, false, none, some, Option·map, List, get_or, set, set-get_or, get_or-set_other, tasks, mutexes, buffers, pools, ◌!◌, member, Queue, ready, Kernel, Tasks, Mutexes, with_tasks, with_mutexes, with_buffers, with_pools, with_place, with_initial, with_base, with_current, with_holder, stands_in, facts, TaskEntry, Ledger, with_task_entry, with_mutex_entry, with_buffer_entry, with_pool_entry, on_task, on_mutex, holds, rebased, eqb, leb, cond}
use Rattle.model.proofs.ListLaws.{select-same}
use Rattle.queue.proofs.Listing.{is-started}
use Rattle.invariant.specs.Rows.{TaskRow, MutexRow, BufferRow, PoolRow, task_rows, mutex_rows, with_task_row, with_mutex_row, with_buffer_row, with_pool_row, open_tasks}
use Rattle.invariant.specs.Invariant.{Invariant}
use Rattle.invariant.proofs.Exchange.{mutex-row, buffer-row, pool-row, task-row}
use Rattle.invariant.proofs.Moves.{stayed_row}
use Rattle.ledger.specs.Abstraction.{entry_of, task_entry, mutex_entry, buffer_entry, pool_entry, table, lines_of, ledger_of}
use Rattle.ledger.proofs.Tables.{table_at, exchanged-table, with_tasks_and_lines, on_mutexes}

-- an entry changed, where there is one
pub entry-changed : {A : Type 0} (f : A → A) (there : ℕ) (x : A) → Option·map f (entry_of there x) ≡ entry_of there (f x)
entry-changed f there x = elim (eqb there 0) as (λ b. Option·map f (cond b none (some x)) ≡ cond b none (some (f x))) [ true ↦ refl | false ↦ refl ]

module _ {exiting : ℕ} {k : Kernel} {store outbox : List ℕ} (v : Invariant exiting k store outbox) where
  abbrev now : Ledger
  now = ledger_of k

  pub mutex-entered : (m : ℕ) → m ≤ mutexes → (r : MutexRow) → with_mutex_entry (ledger_of k) m (mutex_entry r) ≡ ledger_of (with_mutexes k (with_mutex_row k.mutexes m r))
  unfolding with_mutex_entry ledger_of with_mutexes facts stands_in
  mutex-entered m high r =
      let e = exchanged-table mutex_entry (suc mutexes) (mutex-row k.mutexes v.of_mutexes.lists m r high) in
      λ i. on_mutexes (λ xs. e i) now

  pub buffer-entered : (b : ℕ) → b ≤ buffers → (r : BufferRow) → with_buffer_entry (ledger_of k) b (buffer_entry r) ≡ ledger_of (with_buffers k (with_buffer_row k.buffers b r))
  unfolding with_buffer_entry ledger_of with_buffers facts stands_in
  buffer-entered b high r =
      let e = exchanged-table buffer_entry (suc buffers) (buffer-row k.buffers v.of_buffers.lists b r high) in
      λ i. record { tasks = now.tasks; mutexes = now.mutexes; buffers = e i; pools = now.pools; lines = now.lines }

  pub pool-entered : (p : ℕ) → p ≤ pools → (r : PoolRow) (taken : List ℕ) → with_pool_entry (ledger_of k) p (pool_entry r) ≡ ledger_of (with_pools k (with_pool_row k.pools p r taken))
  unfolding with_pool_entry ledger_of with_pools facts stands_in
  pool-entered p high r taken =
      let e = exchanged-table pool_entry (suc pools) (pool-row k.pools v.of_pools.lists p r taken high) in
      λ i. record { tasks = now.tasks; mutexes = now.mutexes; buffers = now.buffers; pools = e i; lines = now.lines }

  -- a mutex's holder
  pub held_by-ledger : (m t : ℕ) → m ≤ mutexes → on_mutex (ledger_of k) m (holds t) ≡ ledger_of (with_holder k m t)
  unfolding on_mutex holds with_holder with_mutexes ledger_of
  held_by-ledger m t high =
      let x = k.mutexes in
      let r : MutexRow = record { exists = x.exists ! m; attribute = x.attribute ! m; ceiling = x.ceiling ! m; holder = t } in
      let e : Option·map (holds t) (get_or now.mutexes m none) ≡ mutex_entry r =
      rw (table_at (suc mutexes) (λ n. mutex_entry (mutex_rows x n)) m none (omega arith), entry-changed (holds t)) in
      let is : with_mutex_row x m r ≡ (with_holder k m t).mutexes = rw (set-get_or x.exists m 0, set-get_or x.attribute m 0, set-get_or x.ceiling m 0) in
      ap (with_mutex_entry now m) e ∙ mutex-entered m high r ∙ ap (λ (y : Mutexes). ledger_of (with_mutexes k y)) is

  module _ (t : ℕ) (low : 1 ≤ t) (high : t ≤ tasks) where
    pub task-changed : (f : TaskEntry → TaskEntry) → let r = task_rows k.tasks t in
        Option·map f (get_or now.tasks t none) ≡ entry_of r.place (f (record { base = r.base; initial = r.initial; started = leb ready r.place }))
    unfolding ledger_of
    task-changed f = rw (table_at (suc tasks) (λ u. task_entry (task_rows k.tasks u)) t none (omega arith), entry-changed f)

    -- a task's row, where each line is as it was
    module _ (r : TaskRow) (current : ℕ) (x : Tasks) (is : with_task_row k.tasks t r current ≡ x) where
      pub rows-entered : set now.tasks t (task_entry r) ≡ (ledger_of (with_tasks k x)).tasks
      unfolding ledger_of with_tasks
      rows-entered =
          exchanged-table task_entry (suc tasks) (task-row k.tasks v.of_tasks.lists t r current high)
          ∙ ap (λ (y : Tasks). table (suc tasks) (λ u. task_entry (task_rows y u))) is

      row-entered : ((q : Queue) → (facts k).arrivals q ≡ (facts (with_tasks k x)).arrivals q) → with_task_entry (ledger_of k) t (task_entry r) ≡ ledger_of (with_tasks k x)
      unfolding with_task_entry ledger_of with_tasks facts
      row-entered same =
          λ i. with_tasks_and_lines now (rows-entered i) (ap lines_of (fun_ext same) i)

    -- a task that is not started is created or deleted
    pub task-entered : (place p : ℕ) → k.tasks.place ! t < ready
        → with_task_entry (ledger_of k) t (task_entry (record { place = place; object = 0; argument = 0; initial = p; base = p; left = 0 }))
        ≡ ledger_of (with_current (with_base (with_initial (with_place k t place) t p) t p) t p)
    unfolding facts stands_in open_tasks
    task-entered place p was =
        let x = k.tasks in
        row-entered (record { place = place; object = x.object ! t; argument = x.argument ! t; initial = p; base = p; left = x.left ! t }) p _
        (rw (set-get_or x.object t 0, set-get_or x.argument t 0, set-get_or x.left t 0))
        (λ q. select-same _ _ k.arrivals (λ u m. rw (get_or-set_other x.place t u place 0 (unlisted u m))))
      where
        -- it stands in no line
        unlisted : (u : ℕ) → member u k.arrivals ≡ true → u ≢ t
        unlisted u m e = let h = rw e at (is-started v.of_tasks.listing u (λ (z : u ≡ 0). omega arith) m) in omega arith

    -- a base priority
    pub task-rebased : (p : ℕ) → on_task (ledger_of k) t (rebased p) ≡ ledger_of (with_base k t (cond (eqb p 0) (k.tasks.initial ! t) p))
    unfolding on_task rebased facts stands_in open_tasks
    task-rebased p =
        let x = k.tasks in
        ap (with_task_entry now t) (task-changed (rebased p))
        ∙ row-entered (stayed_row v t low high (cond (eqb p 0) (x.initial ! t) p) (x.left ! t)) (x.current ! t) _
        (rw (set-get_or x.place t 0, set-get_or x.object t 0, set-get_or x.argument t 0, set-get_or x.initial t 0, set-get_or x.current t 0, set-get_or x.left t 0))
        (λ q. refl)
