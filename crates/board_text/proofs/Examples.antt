-- Texts as the definitions compute them. Assumes nothing.
use Prim.Native.Nat.{ℕ}
use mathlib.Core.Path.{◌≡◌, refl}
use mathlib.Core.List.{[], ◌∷◌, ◌++◌}
use lib.ListN.{replicate}
use lib.IntN.{ℤ, pos}
use Rattle.model.specs.Sizes.{tasks, mutexes, buffers, pools}
use Rattle.model.specs.Code.{minus}
use Rattle.model.specs.Record.{compute_record}
use Rattle.status.specs.declared.row.TaskRow.{TaskRow}
use Rattle.status.specs.declared.row.MutexRow.{MutexRow}
use Rattle.status.specs.declared.row.BufferRow.{BufferRow}
use Rattle.status.specs.declared.row.PoolRow.{PoolRow}
use Rattle.status.specs.Blank.{blank_task, blank_mutex, blank_buffer, blank_pool}
use Rattle.text.specs.Names.{ascii}
use Rattle.board_text.specs.Table.{table_text}
use Rattle.board_text.specs.Tables.{task_table, mutex_table, buffer_table, pool_table}
use Rattle.board_text.specs.Wall.{wall_text, compute_wall}

abbrev task : ℕ → ℕ → ℕ → ℕ → ℕ → ℤ → TaskRow
task state base current kind object left = record { state = state; base = base; current = current; kind = kind; object = object; left = left }

abbrev mutex : ℕ → ℕ → MutexRow
mutex holder waiter = record { holder = holder; waiter = waiter }

abbrev buffer : ℕ → ℤ → ℕ → ℕ → ℕ → BufferRow
buffer free room next receiver sender = record { free = free; room = room; next = next; receiver = receiver; sender = sender }

abbrev pool : ℕ → ℕ → PoolRow
pool free waiter = record { free = free; waiter = waiter }

-- every state, each kind of object, a wait without end and one that ends; and a row between the others that is not shown
some-tasks : table_text task_table
    (task 1 8 8 0 0 (pos 0)
    ∷ task 4 5 3 0x10 1 (minus 1)
    ∷ blank_task
    ∷ task 16 10 10 0 0 (pos 0)
    ∷ task 4 5 3 0x20 2 (pos 250)
    ∷ task 2 16 16 0 0 (pos 0)
    ∷ task 4 1 1 0x30 4 (pos 2147483647)
    ∷ [])
    ≡ ascii "task  state    base  current  waits for  time left\n" ++ ascii "   1  running     8        8  -          -\n"
    ++ ascii "   2  waiting     5        3  mutex 1    endless\n"
    ++ ascii "   4  dormant    10       10  -          -\n"
    ++ ascii "   5  waiting     5        3  buffer 2   250 ms\n"
    ++ ascii "   6  ready      16       16  -          -\n"
    ++ ascii "   7  waiting     1        1  pool 4     2147483647 ms\n"
unfolding compute_wall
some-tasks = refl

some-mutexes : table_text mutex_table (mutex 2 12 ∷ mutex 0 0 ∷ blank_mutex ∷ [])
    ≡ ascii "mutex  holder   first waiter\n" ++ ascii "    1  task 2   task 12\n" ++ ascii "    2  -        -\n"
unfolding compute_wall
some-mutexes = refl

some-buffers : table_text buffer_table (buffer 256 (pos 220) 0 3 0 ∷ buffer 0 (minus 36) 32 0 12 ∷ buffer 36 (pos 0) 0 0 0 ∷ buffer 35 (minus 1) 0 0 0 ∷ [])
    ≡ ascii "buffer  free bytes  room for maxmsz  next message  first receiver  first sender\n"
    ++ ascii "     1         256              220             -  task 3          -\n"
    ++ ascii "     2           0              -36            32  -               task 12\n"
    ++ ascii "     3          36                0             -  -               -\n"
    ++ ascii "     4          35               -1             -  -               -\n"
unfolding compute_wall
some-buffers = refl

some-pools : table_text pool_table (blank_pool ∷ pool 3 0 ∷ []) ≡ ascii "pool  free blocks  first waiter\n" ++ ascii "   2            3  -\n"
unfolding compute_wall
some-pools = refl

-- nothing is there; the script stops at once
no-objects : wall_text (0x07 ∷ []) 0 (replicate tasks blank_task) (replicate mutexes blank_mutex) (replicate buffers blank_buffer) (replicate pools blank_pool)
    ≡ ascii "0: stopped: kind 07 hex is unknown\n\nno tasks\n\nno mutexes\n\nno buffers\n\nno pools\n"
unfolding compute_wall compute_record
no-objects = refl
