-- `priorities` meets its contract: the copy's current priorities are worked out afresh. Assumes nothing.
use mathlib.Core.Path.{refl}
use Rattle.valid.proofs.Currents.{afresh-same}
use Rattle.valid.proofs.current.priorities.Goals as goal

pub returns : goal.returns
returns c = search (refl, afresh-same)
