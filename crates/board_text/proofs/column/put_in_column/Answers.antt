-- `put_in_column` meets its contract, by the column. Assumes nothing.
use Rattle.script.proofs.Appending.{wrote, wrote-more}
use Rattle.board_text.specs.Column.{in_column}
use Rattle.board_text.proofs.Cells.{column-told}
use Rattle.board_text.proofs.column.put_in_column.Goals as goal

pub returns-in-Right : goal.returns-in-Right
unfolding in_column
returns-in-Right c =
    column-told _ _ c.in-Right.is
    (wrote-more (wrote-more (rw c.saturating_sub.ensures at c.put_spaces-next.ensures) (wrote c.put-next.ensures)) (wrote c.put.ensures))

pub returns-in-Left : goal.returns-in-Left
unfolding in_column
returns-in-Left c =
    column-told _ _ c.in-Left.is
    (wrote-more (wrote-more (wrote c.put-next-in-Left.ensures) (rw c.saturating_sub-in-Left.ensures at c.put_spaces-next-in-Left.ensures)) (wrote c.put-in-Left.ensures))

pub returns-in-Last : goal.returns-in-Last
unfolding in_column
returns-in-Last c = column-told _ _ c.in-Last.is (wrote-more (wrote c.put-next-in-Last.ensures) (wrote c.put-in-Last.ensures))
