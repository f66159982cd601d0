-- The four tables. A row that is blank in the field that tells so was not written: there is no such object.
use Rattle.std.specs.Prelude.{ℕ, Bool, not, [], ◌∷◌, eqb}
use Rattle.status.specs.declared.row.TaskRow.{TaskRow}
use Rattle.status.specs.declared.row.MutexRow.{MutexRow}
use Rattle.status.specs.declared.row.BufferRow.{BufferRow}
use Rattle.status.specs.declared.row.PoolRow.{PoolRow}
use Rattle.status.specs.Blank.{largest_word}
use Rattle.board_text.specs.declared.cell.Cell.TheVariants.{Number, Signed, State, Awaited, Time, Task, Length}
use Rattle.board_text.specs.declared.column.Column.TheVariants.{Right, Left, Last}
use Rattle.board_text.specs.Table.{Table}

-- no object's state, holder or free count is the largest word
abbrev pub written : ℕ → Bool
written word = not (eqb word largest_word)

unfoldable pub task_table : Table TaskRow
task_table =
    record {
      columns = (Right 4, "task") ∷ (Left 7, "state") ∷ (Right 4, "base") ∷ (Right 7, "current") ∷ (Left 9, "waits for") ∷ (Last, "time left") ∷ [];
      cells = λ n row. Number n ∷ State row.state ∷ Number row.base ∷ Number row.current ∷ Awaited row.kind row.object ∷ Time row.left ∷ [];
      shown = λ row. written row.state;
      nothing = "no tasks\n";
    }

unfoldable pub mutex_table : Table MutexRow
mutex_table =
    record {
      columns = (Right 5, "mutex") ∷ (Left 7, "holder") ∷ (Last, "first waiter") ∷ [];
      cells = λ n row. Number n ∷ Task row.holder ∷ Task row.waiter ∷ [];
      shown = λ row. written row.holder;
      nothing = "no mutexes\n";
    }

unfoldable pub buffer_table : Table BufferRow
buffer_table =
    record {
      columns = (Right 6, "buffer") ∷ (Right 10, "free bytes") ∷ (Right 15, "room for maxmsz") ∷ (Right 12, "next message") ∷ (Left 14, "first receiver") ∷ (Last, "first sender")
          ∷ [];
      cells = λ n row. Number n ∷ Number row.free ∷ Signed row.room ∷ Length row.next ∷ Task row.receiver ∷ Task row.sender ∷ [];
      shown = λ row. written row.free;
      nothing = "no buffers\n";
    }

unfoldable pub pool_table : Table PoolRow
pool_table =
    record {
      columns = (Right 4, "pool") ∷ (Right 11, "free blocks") ∷ (Last, "first waiter") ∷ [];
      cells = λ n row. Number n ∷ Number row.free ∷ Task row.waiter ∷ [];
      shown = λ row. written row.free;
      nothing = "no pools\n";
    }
