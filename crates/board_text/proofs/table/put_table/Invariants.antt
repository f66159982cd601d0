-- `put_table` meets its contract. The invariant: what is left is the table from row i on. Assumes nothing.
use Rattle.board_text.proofs.Rows.{RowsLeft}
use Rattle.board_text.proofs.table.put_table.Given as goal

abbrev pub invariant-loop-i : goal.invariant-loop-i
invariant-loop-i g l = RowsLeft g.R.Tabled.table l.rows l.initial.text l.at l.any l.i l.text l.next
