-- The blank rows of a table that is lent to be filled: the largest word in every field, -1 in those with a sign. No row that a board call writes is one: what
-- is to be proved of that, as a type; `proofs/Blanks` proves it.
use Rattle.std.specs.Prelude.{ℕ, ◌≢◌}
use Rattle.model.specs.Sizes.{tasks, mutexes, buffers, pools, endless}
use Rattle.model.specs.Code.{minus}
use Rattle.model.specs.World.{Lent}
use Rattle.model.specs.Valid.{Each, Valid}
use Rattle.status.specs.declared.row.TaskRow.{TaskRow}
use Rattle.status.specs.declared.row.MutexRow.{MutexRow}
use Rattle.status.specs.declared.row.BufferRow.{BufferRow}
use Rattle.status.specs.declared.row.PoolRow.{PoolRow}
use Rattle.status.specs.Rows.{task_row, mutex_row, buffer_row, pool_row}

-- the largest word: the one that stands for a wait without end
abbrev pub largest_word : ℕ
largest_word = endless

abbrev pub blank_task : TaskRow
blank_task = record { state = largest_word; base = largest_word; current = largest_word; kind = largest_word; object = largest_word; left = minus 1 }

abbrev pub blank_mutex : MutexRow
blank_mutex = record { holder = largest_word; waiter = largest_word }

abbrev pub blank_buffer : BufferRow
blank_buffer = record { free = largest_word; room = minus 1; next = largest_word; receiver = largest_word; sender = largest_word }

abbrev pub blank_pool : PoolRow
blank_pool = record { free = largest_word; waiter = largest_word }

-- in one field no row of a valid state is blank
pub record NoneBlank (x : Lent) : Type 0 where
  pub task : Each tasks (λ t. (task_row x.kernel t).state ≢ largest_word)
  pub mutex : Each mutexes (λ m. (mutex_row x.kernel m).holder ≢ largest_word)
  pub buffer : Each buffers (λ b. (buffer_row x b).free ≢ largest_word)
  pub pool : Each pools (λ p. (pool_row x.kernel p).free ≢ largest_word)

abbrev pub ValidHasNoneBlank : Type 0
ValidHasNoneBlank = (x : Lent) → Valid x → NoneBlank x
