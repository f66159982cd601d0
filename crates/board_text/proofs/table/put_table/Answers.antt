-- `put_table` meets its contract. The invariant: what is left is the table from row i on. Assumes nothing.
use mathlib.Core.Path.{◌∙◌, sym}
use Rattle.board_text.proofs.Rows.{no-row-yet, row-passed, row_put, table-put}
use Rattle.board_text.proofs.table.put_table.Goals as goal

pub loop-i-init : goal.loop-i-init
loop-i-init g c = no-row-yet _ _ _ _

pub loop-i-preserved-then-not-shown : goal.loop-i-preserved-then-not-shown
loop-i-preserved-then-not-shown g c = row-passed c.loop-i.invariant c.index-rows-i.is c.loop-i-test.true (sym c.shown.ensures ∙ c.if-not-shown.true)

pub loop-i-preserved : goal.loop-i-preserved
loop-i-preserved g c =
    row_put c.loop-i.invariant c.index-rows-i.is c.loop-i-test.true (sym c.shown.ensures ∙ c.if-not-shown.false) (rw c.header.ensures at c.put_unless-first.ensures)
    c.put_row-next.ensures (c.put_row-next.auto.text ∙ c.put_unless-first.auto.text)

pub returns : goal.returns
returns g c = table-put c.loop-i.invariant c.loop-i-test.false (rw c.nothing.ensures at c.put_unless.ensures)
