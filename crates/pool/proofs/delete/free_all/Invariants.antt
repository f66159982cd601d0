-- `free_all` meets its contract: what is left are the blocks from the next one on. Assumes nothing.
use Prim.Native.Nat.{◌-◌, ◌≤◌}
use Rattle.model.specs.Sizes.{blocks}
use Rattle.pool.proofs.Deleting.{Freeing}
use Rattle.pool.proofs.delete.free_all.Given as goal

abbrev pub invariant-loop-n : goal.invariant-loop-n
invariant-loop-n l = Freeing l.p.0 l.initial.state l.n l.state × (l.n ≤ blocks)

abbrev pub decreases-loop-n : goal.decreases-loop-n
decreases-loop-n l = blocks - l.n
