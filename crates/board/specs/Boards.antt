-- 02, request One: the four boards, of whatever is lent and any table. Each is `board_of`: one rule for which rows change.
use Rattle.std.specs.Prelude.{ℕ, List}
use Rattle.model.specs.Sizes.{tasks, mutexes, buffers, pools}
use Rattle.model.specs.Words.{kernel}
use Rattle.model.specs.Lent.{lent, is_valid}
use Rattle.status.specs.declared.row.TaskRow.{TaskRow}
use Rattle.status.specs.declared.row.MutexRow.{MutexRow}
use Rattle.status.specs.declared.row.BufferRow.{BufferRow}
use Rattle.status.specs.declared.row.PoolRow.{PoolRow}
use Rattle.board.specs.Table.{Board, board_of}
use Rattle.status.specs.Rows.{is_there, task_row, mutex_row, buffer_row, pool_row}

-- "a table of status rows, one for each task"
unfoldable pub task_board : List ℕ → List ℕ → List ℕ → List TaskRow → Board TaskRow
task_board w store outbox = board_of (is_valid w store outbox) tasks (is_there (kernel w).tasks.place) (task_row (kernel w))

-- "The same for mutexes [..], buffers [..] and pools"
unfoldable pub mutex_board : List ℕ → List ℕ → List ℕ → List MutexRow → Board MutexRow
mutex_board w store outbox = board_of (is_valid w store outbox) mutexes (is_there (kernel w).mutexes.exists) (mutex_row (kernel w))

unfoldable pub buffer_board : List ℕ → List ℕ → List ℕ → List BufferRow → Board BufferRow
buffer_board w store outbox = board_of (is_valid w store outbox) buffers (is_there (kernel w).buffers.exists) (buffer_row (lent w store outbox))

unfoldable pub pool_board : List ℕ → List ℕ → List ℕ → List PoolRow → Board PoolRow
pool_board w store outbox = board_of (is_valid w store outbox) pools (is_there (kernel w).pools.exists) (pool_row (kernel w))
