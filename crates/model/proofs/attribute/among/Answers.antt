-- `among` meets its contract: four flags side by side are the list's. Assumes nothing.
use mathlib.Core.Bool.{or_assoc, or-false}
use Rattle.model.proofs.attribute.among.Goals as goal

pub returns : goal.returns
returns c = simp (or_assoc, or-false)
