-- `put_awaited` meets its contract. Assumes nothing.
use Rattle.script.proofs.Appending.{wrote, wrote-more}
use Rattle.board_text.specs.Cell.{awaited_text}
use Rattle.board_text.proofs.Cells.{no_dash}
use Rattle.board_text.proofs.cell.put_awaited.Goals as goal

pub returns : goal.returns
unfolding awaited_text
returns c = no_dash _ _ c.if-kind-eq0.false (wrote-more (wrote c.put_object-next.ensures) (wrote c.put_number.ensures))
