-- `free_count` meets its contract. The loop's invariant: those counted, and those of the blocks still to be seen, are all. Assumes nothing.
use Prim.Native.Nat.{◌-◌}
use Rattle.model.specs.Words.{kernel}
use Rattle.status.proofs.Blocks.{Seen}
use Rattle.status.proofs.pool.free_count.Given as goal

abbrev pub invariant-loop-i : goal.invariant-loop-i
invariant-loop-i l = Seen (kernel l.state).pools l.p.0 l.count l.free l.i

abbrev pub decreases-loop-i : goal.decreases-loop-i
decreases-loop-i l = l.count - l.i
