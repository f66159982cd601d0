-- The whole of what the wall shows: where a script ends or stops, and the four tables.
use Rattle.std.specs.Prelude.{ℕ, List, ◌++◌}
use Rattle.status.specs.declared.row.TaskRow.{TaskRow}
use Rattle.status.specs.declared.row.MutexRow.{MutexRow}
use Rattle.status.specs.declared.row.BufferRow.{BufferRow}
use Rattle.status.specs.declared.row.PoolRow.{PoolRow}
use Rattle.text.specs.Names.{ascii}
use Rattle.text.specs.Numbers.{compute_numbers}
use Rattle.text.specs.Place.{place_line, compute_place}
use Rattle.board_text.specs.Cell.{compute_cell}
use Rattle.board_text.specs.Column.{in_column}
use Rattle.board_text.specs.Table.{table_text}
use Rattle.board_text.specs.Tables.{task_table, mutex_table, buffer_table, pool_table}

-- an empty line between the tables
unfoldable pub tables_text : List TaskRow → List MutexRow → List BufferRow → List PoolRow → List ℕ
tables_text tasks mutexes buffers pools =
    table_text task_table tasks ++ ascii "\n" ++ table_text mutex_table mutexes ++ ascii "\n" ++ table_text buffer_table buffers ++ ascii "\n" ++ table_text pool_table pools

-- the line that `show` writes last, of the place where a script ends or stops
unfoldable pub wall_text : List ℕ → ℕ → List TaskRow → List MutexRow → List BufferRow → List PoolRow → List ℕ
wall_text script place tasks mutexes buffers pools = place_line script place ++ (ascii "\n" ++ tables_text tasks mutexes buffers pools)

-- what has to unfold for the definitions of this crate to compute
unfoldable pub compute_wall : Unit {0}
unfolding compute_numbers compute_place compute_cell in_column table_text task_table mutex_table buffer_table pool_table tables_text wall_text
compute_wall = tt
