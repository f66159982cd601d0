-- `put_tables` meets its contract: one table behind the other. Assumes nothing.
use Rattle.script.proofs.Appending.{wrote, wrote-more}
use Rattle.board_text.specs.Wall.{tables_text}
use Rattle.board_text.proofs.wall.put_tables.Goals as goal

pub returns : goal.returns
unfolding tables_text
returns c =
    let two = wrote-more (wrote-more c.put_table-next.ensures (wrote c.put-next.ensures)) c.put_table-next-2.ensures in
    let three = wrote-more (wrote-more two (wrote c.put-next-2.ensures)) c.put_table-next-3.ensures in
    wrote-more (wrote-more three (wrote c.put-next-3.ensures)) c.put_table.ensures
