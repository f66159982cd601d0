-- `sends` meets its contract. Assumes nothing.
use mathlib.Core.Path.{ap}
use Prim.Native.Nat.{ℕ}
use lib.Dec.{eqb}
use Rattle.model.specs.Facts.{sending}
use Rattle.search.proofs.sender.sends.Goals as goal

pub returns : goal.returns
returns c = ap (λ (p : ℕ). eqb p sending) c.place.ensures
