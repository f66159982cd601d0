-- `of_pool` meets its contract: the list in two halves. Assumes nothing.
use mathlib.Core.Bool.{or_assoc, or-false}
use Rattle.model.proofs.attribute.of_pool.Goals as goal

pub returns : goal.returns
returns c = rw (c.among-high.ensures, c.among-low.ensures) (simp (or_assoc, or-false))
