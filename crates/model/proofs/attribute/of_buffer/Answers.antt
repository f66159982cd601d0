-- `of_buffer` meets its contract: two flags side by side are the list's. Assumes nothing.
use mathlib.Core.Bool.{or-false}
use Rattle.model.proofs.attribute.of_buffer.Goals as goal

pub returns : goal.returns
returns c = simp or-false
