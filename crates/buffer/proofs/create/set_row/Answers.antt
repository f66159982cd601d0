-- `set_row` meets its contract: entry after entry. Assumes nothing.

use Rattle.buffer.proofs.create.set_row.Goals as goal

pub returns : goal.returns
returns c = record { length = c.set_maxmsz.ensures.length; kernel = cc }
