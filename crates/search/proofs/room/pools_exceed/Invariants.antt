-- `pools_exceed` meets its contract. The loop's invariant: the pools still to be counted and the bytes that are left decide. Assumes nothing.
use Prim.Native.Nat.{ℕ, suc, ◌+◌, ◌*◌, ◌-◌}
use mathlib.Core.List.{List}
use lib.Dec.{ltb}
use Rattle.model.specs.Sizes.{pools, pool_bytes}
use Rattle.model.specs.Lists.{◌!◌}
use Rattle.model.specs.Refusal.{pool_sum}
use Rattle.model.specs.Words.{kernel}
use Rattle.model.proofs.NumberLaws.{pool_kind}
use Rattle.search.proofs.Sums.{Adding}
use Rattle.search.proofs.room.pools_exceed.Given as goal

abbrev pub size : List ℕ → ℕ → ℕ
size w p = (kernel w).pools.count ! p * (kernel w).pools.size ! p

abbrev pub invariant-loop-n : goal.invariant-loop-n
invariant-loop-n l = Adding pool_kind (size l.state) l.n l.room (ltb pool_bytes (pool_sum (kernel l.state) + l.more))

abbrev pub decreases-loop-n : goal.decreases-loop-n
decreases-loop-n l = suc pools - l.n
