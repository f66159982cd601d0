-- `set_row` meets its contract. Assumes nothing.

use Rattle.task.proofs.create.set_row.Goals as goal

pub returns : goal.returns
returns c = record { length = c.set_current.ensures.length; kernel = cc }
