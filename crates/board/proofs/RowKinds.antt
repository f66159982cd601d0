-- The four kinds of row: which objects exist, and what a row holds. Assumes nothing.
use Prim.Native.Nat.{ℕ}
use mathlib.Core.Bool.{Bool}
use mathlib.Core.List.{List}
use Rattle.model.specs.Words.{kernel}
use Rattle.model.specs.Lent.{lent}
use Rattle.status.specs.declared.row.TaskRow.{TaskRow}
use Rattle.status.specs.declared.row.MutexRow.{MutexRow}
use Rattle.status.specs.declared.row.BufferRow.{BufferRow}
use Rattle.status.specs.declared.row.PoolRow.{PoolRow}
use Rattle.status.specs.Rows.{is_there, task_row, mutex_row, buffer_row, pool_row}

abbrev pub task-exists : List ℕ → ℕ → Bool
task-exists w = is_there (kernel w).tasks.place

abbrev pub task-row : List ℕ → List ℕ → List ℕ → ℕ → TaskRow
task-row w s o = task_row (kernel w)

abbrev pub mutex-exists : List ℕ → ℕ → Bool
mutex-exists w = is_there (kernel w).mutexes.exists

abbrev pub mutex-row : List ℕ → List ℕ → List ℕ → ℕ → MutexRow
mutex-row w s o = mutex_row (kernel w)

abbrev pub buffer-exists : List ℕ → ℕ → Bool
buffer-exists w = is_there (kernel w).buffers.exists

abbrev pub buffer-row : List ℕ → List ℕ → List ℕ → ℕ → BufferRow
buffer-row w s o = buffer_row (lent w s o)

abbrev pub pool-exists : List ℕ → ℕ → Bool
pool-exists w = is_there (kernel w).pools.exists

abbrev pub pool-row : List ℕ → List ℕ → List ℕ → ℕ → PoolRow
pool-row w s o = pool_row (kernel w)
