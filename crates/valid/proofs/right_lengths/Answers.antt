-- `right_lengths` meets its contract: the lengths are compared. Assumes nothing.
use mathlib.Core.Path.{refl}
use Rattle.model.specs.Words.{sizes}
use Rattle.valid.proofs.right_lengths.Goals as goal

pub returns : goal.returns
unfolding sizes
returns c = refl
