-- `put_task` meets its contract. Assumes nothing.
use Rattle.script.proofs.Appending.{wrote, wrote-more}
use Rattle.board_text.specs.Cell.{task_text}
use Rattle.board_text.proofs.Cells.{no_dash}
use Rattle.board_text.proofs.cell.put_task.Goals as goal

pub returns : goal.returns
unfolding task_text
returns c = no_dash _ _ c.if-task-eq0.false (wrote-more (wrote c.put-next.ensures) (wrote c.put_number.ensures))
