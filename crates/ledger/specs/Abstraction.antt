-- The ledger that is read off a kernel, whatever calls led there. So each act of a call has one equation to meet: that the ledger which is fed the call is the one read
-- off the kernel after it.
use Rattle.std.specs.Prelude.{◌∷◌}
use Rattle.model.proofs.Terms.{ℕ, suc, cond, Option, none, some, List, [], map, length, eqb, leb, tasks, mutexes, buffers, pools, ◌!◌, count_from, Queue, queue, ready, Kernel, facts, TaskEntry, MutexEntry, Ledger}
use Rattle.invariant.specs.Rows.{TaskRow, MutexRow, BufferRow, PoolRow, task_rows, mutex_rows, buffer_rows, pool_rows}

-- a list made number by number from 0
unfoldable pub table : {A : Type 0} → ℕ → (ℕ → A) → List A
table n f = map f (count_from 0 n)

-- The entry of a row: none where nothing is there, which is where its first field is 0.
abbrev pub entry_of : {A : Type 0} → ℕ → A → Option A
entry_of there x = cond (eqb there 0) none (some x)

abbrev pub task_entry : TaskRow → Option TaskEntry
task_entry r = entry_of r.place (record { base = r.base; initial = r.initial; started = leb ready r.place })

abbrev pub mutex_entry : MutexRow → Option MutexEntry
mutex_entry r = entry_of r.exists (record { attribute = r.attribute; ceiling = r.ceiling; holder = r.holder })

abbrev pub buffer_entry : BufferRow → Option ℕ
buffer_entry r = entry_of r.exists r.attribute

abbrev pub pool_entry : PoolRow → Option ℕ
pool_entry r = entry_of r.exists r.attribute

-- how many lines each place has: absent and dormant none, ready one, and the others one for each number of their kind and for 0
unfoldable pub widths : List ℕ
widths = 0 ∷ 0 ∷ 1 ∷ suc mutexes ∷ suc buffers ∷ suc buffers ∷ suc pools ∷ []

unfoldable pub lines_of : (Queue → List ℕ) → List (List (List ℕ))
lines_of f = table (length widths) (λ p. table (widths ! p) (λ o. f (queue p o)))

unfoldable pub ledger_of : Kernel → Ledger
ledger_of k =
    record {
      tasks = table (suc tasks) (λ t. task_entry (task_rows k.tasks t));
      mutexes = table (suc mutexes) (λ m. mutex_entry (mutex_rows k.mutexes m));
      buffers = table (suc buffers) (λ b. buffer_entry (buffer_rows k.buffers b));
      pools = table (suc pools) (λ p. pool_entry (pool_rows k.pools p));
      lines = lines_of (facts k).arrivals;
    }
