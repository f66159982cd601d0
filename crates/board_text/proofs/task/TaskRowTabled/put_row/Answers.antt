-- `put_row` meets its contract: one cell behind the other. Assumes nothing.
use mir.Syntax.{w32}
use mir.Facts.{to_z-of_z}
use borrow.Author.Rules.{rules}
use Rattle.script.proofs.Appending.{wrote-more}
use Rattle.board_text.specs.Tables.{task_table}
use Rattle.board_text.proofs.Cells.{last-cell}
use Rattle.board_text.proofs.task.TaskRowTabled.put_row.Goals as goal

pub returns : goal.returns
unfolding task_table
returns c =
    wrote-more c.put_cell-next.ensures
    (wrote-more c.put_cell-next-2.ensures
    (wrote-more c.put_cell-next-3.ensures
    (wrote-more c.put_cell-next-4.ensures
    (wrote-more c.put_cell-next-5.ensures (last-cell (rw (to_z-of_z {w = w32} {z = c.args.self.left} (search rules)) at c.put_cell.ensures))))))
