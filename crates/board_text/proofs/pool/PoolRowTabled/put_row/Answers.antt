-- `put_row` meets its contract: one cell behind the other. Assumes nothing.
use Rattle.script.proofs.Appending.{wrote-more}
use Rattle.board_text.specs.Tables.{pool_table}
use Rattle.board_text.proofs.Cells.{last-cell}
use Rattle.board_text.proofs.pool.PoolRowTabled.put_row.Goals as goal

pub returns : goal.returns
unfolding pool_table
returns c = search (wrote-more, last-cell)
