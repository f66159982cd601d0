-- `free_block` meets its contract. The loop's invariant: the first free block is that of the blocks still to be seen. Assumes nothing.
use Prim.Native.Nat.{◌-◌}
use Rattle.model.specs.Words.{kernel}
use Rattle.search.proofs.Blocks.{Searched}
use Rattle.search.proofs.block.free_block.Given as goal

abbrev pub invariant-loop-i : goal.invariant-loop-i
invariant-loop-i l = Searched (kernel l.state) l.p.0 l.count l.i

abbrev pub decreases-loop-i : goal.decreases-loop-i
decreases-loop-i l = l.count - l.i
