-- `put_cell` meets its contract: what it takes from the place of its own is the cell. Assumes nothing.
use mathlib.Core.Path.{sym}
use Rattle.io.proofs.Counting.{prefix_len_of_le}
use Rattle.text.proofs.Fitting.{is_front}
use Rattle.board_text.proofs.Fitting.{cell-short}
use Rattle.board_text.proofs.column.put_cell.Goals as goal

pub slice_bounds-content-end : goal.slice_bounds-content-end
slice_bounds-content-end c = (is_front (cell-short _) c.put_content-n.ensures).inside

pub slice_bounds-put_in_column-end : goal.slice_bounds-put_in_column-end
slice_bounds-put_in_column-end c = (prefix_len_of_le _ _ (is_front (cell-short _) c.put_content-n.ensures).inside).1

pub returns : goal.returns
returns c =
    rw (sym (is_front (cell-short _) c.put_content-n.ensures).bytes)
    c.put_in_column.ensures
