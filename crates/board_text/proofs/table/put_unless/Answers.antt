-- `put_unless` meets its contract. Assumes nothing.
use Rattle.board_text.proofs.Rows.{there_already}
use Rattle.board_text.proofs.table.put_unless.Goals as goal

pub returns-then-any : goal.returns-then-any
returns-then-any c = there_already _ c.if-any.true
