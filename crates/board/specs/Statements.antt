-- Which rows a board call changes, over any kind of row, and what a table tells that is lent blank: what is to be proved, each as a type. `Theorems`
-- proves them.
use Rattle.std.specs.Prelude.{ℕ, suc, ◌≤◌, ◌<◌, ◌≡◌, ◌≢◌, ◌⊎◌, Bool, true, false, not, List, length, get_or, replicate, eqb}
use Rattle.model.specs.Sizes.{tasks, mutexes, buffers, pools}
use Rattle.model.specs.Code.{E_OK}
use Rattle.model.specs.Words.{kernel}
use Rattle.model.specs.Lent.{lent, is_valid}
use Rattle.status.specs.declared.row.TaskRow.{TaskRow}
use Rattle.status.specs.declared.row.MutexRow.{MutexRow}
use Rattle.status.specs.declared.row.BufferRow.{BufferRow}
use Rattle.status.specs.declared.row.PoolRow.{PoolRow}
use Rattle.status.specs.Rows.{is_there, task_row, mutex_row, buffer_row, pool_row}
use Rattle.status.specs.Blank.{largest_word, blank_task, blank_mutex, blank_buffer, blank_pool}
use Rattle.board.specs.Table.{Board, board_of}
use Rattle.board.specs.Boards.{task_board, mutex_board, buffer_board, pool_board}

-- Rows are counted from 0 here, so row i is that of the object i + 1. `get_or rows i r` is row i, and r beyond the table's end.
pub record RowsChange {R : Type 0} (objects : ℕ) (exists : ℕ → Bool) (row_of : ℕ → R) (before : List R) (b : Board R) : Type 0 where
  pub as_many : length b.rows ≡ length before
  -- "with nothing written"
  pub refused : b.code ≢ E_OK → b.rows ≡ before
  -- "Row n is task n's"
  pub of_object : b.code ≡ E_OK → (i : ℕ) → i < objects → exists (suc i) ≡ true → (r : R) → get_or b.rows i r ≡ row_of (suc i)
  -- "only rows of existing tasks are written"
  pub others : (i : ℕ) → (objects ≤ i) ⊎ (exists (suc i) ≡ false) → (r : R) → get_or b.rows i r ≡ get_or before i r

abbrev pub BoardsChangeRows : Type 1
BoardsChangeRows =
    (R : Type 0) (valid : Bool) (objects : ℕ) (exists : ℕ → Bool) (row_of : ℕ → R) (before : List R)
    → RowsChange objects exists row_of before (board_of valid objects exists row_of before)

-- the four boards, of whatever is lent and any tables
pub record EachBoardChangesRows (w store outbox : List ℕ) : Type 0 where
  pub task : (rows : List TaskRow) → RowsChange tasks (is_there (kernel w).tasks.place) (task_row (kernel w)) rows (task_board w store outbox rows)
  pub mutex : (rows : List MutexRow) → RowsChange mutexes (is_there (kernel w).mutexes.exists) (mutex_row (kernel w)) rows (mutex_board w store outbox rows)
  pub buffer : (rows : List BufferRow) → RowsChange buffers (is_there (kernel w).buffers.exists) (buffer_row (lent w store outbox)) rows (buffer_board w store outbox rows)
  pub pool : (rows : List PoolRow) → RowsChange pools (is_there (kernel w).pools.exists) (pool_row (kernel w)) rows (pool_board w store outbox rows)

abbrev pub TheFourChangeRows : Type 0
TheFourChangeRows = (w store outbox : List ℕ) → EachBoardChangesRows w store outbox

-- Of a valid state a table that is lent blank, with a row for each object, tells which objects exist: the others' rows are blank afterwards.
pub record BlankTells (w store outbox : List ℕ) : Type 0 where
  pub task : (i : ℕ) → i < tasks → eqb (get_or (task_board w store outbox (replicate tasks blank_task)).rows i blank_task).state largest_word ≡ not (is_there (kernel w).tasks.place (suc i))
  pub mutex : (i : ℕ) → i < mutexes → eqb (get_or (mutex_board w store outbox (replicate mutexes blank_mutex)).rows i blank_mutex).holder largest_word ≡ not (is_there (kernel w).mutexes.exists (suc i))
  pub buffer : (i : ℕ) → i < buffers → eqb (get_or (buffer_board w store outbox (replicate buffers blank_buffer)).rows i blank_buffer).free largest_word ≡ not (is_there (kernel w).buffers.exists (suc i))
  pub pool : (i : ℕ) → i < pools → eqb (get_or (pool_board w store outbox (replicate pools blank_pool)).rows i blank_pool).free largest_word ≡ not (is_there (kernel w).pools.exists (suc i))

abbrev pub BlanksTell : Type 0
BlanksTell = (w store outbox : List ℕ) → is_valid w store outbox ≡ true → BlankTells w store outbox
