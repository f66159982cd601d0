-- `pools_fit` meets its contract: no more than a bound is not above it. Assumes nothing.
use native.Mathlib.Nat.{add-zero}
use Rattle.search.proofs.Sums.{not-above}
use Rattle.valid.proofs.pool.pools_fit.Goals as goal

pub returns : goal.returns
returns c = rw (c.pools_exceed.ensures, add-zero, not-above)
