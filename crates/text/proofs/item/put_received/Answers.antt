-- `put_received` meets its contract. Assumes nothing.
use mathlib.Core.Path.{sym}
use Rattle.text.proofs.Texts.{received-put}
use Rattle.text.proofs.item.put_received.Goals as goal

pub returns : goal.returns
returns c =
    received-put c.args.item.now c.put_task-next.ensures c.put-next.ensures
    (rw (sym c.part.ensures) c.put_quoted.ensures)
