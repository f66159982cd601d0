-- `show_board` meets its contract: the rows are those that the board gives. Assumes nothing.
use mathlib.Core.Path.{sym}
use Rattle.wall.specs.Walled.{board_text}
use Rattle.wall.proofs.show_board.Goals as goal

pub returns : goal.returns
unfolding board_text
returns c =
    rw (sym c.task_table-tasks.ensures, sym c.mutex_table-mutexes.ensures, sym c.buffer_table-buffers.ensures, sym c.pool_table-pools.ensures)
    c.put_wall.ensures
