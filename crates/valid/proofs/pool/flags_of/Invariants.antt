-- `flags_of` meets its contract. The loop's invariant: the blocks still to be asked decide. Assumes nothing.
use Prim.Native.Nat.{suc, ◌-◌}
use Rattle.model.specs.Sizes.{blocks}
use Rattle.model.specs.Lists.{all, count_from}
use Rattle.model.specs.Valid.{block_flag}
use Rattle.model.proofs.Loops.{Left}
use Rattle.model.specs.Words.{kernel}
use Rattle.valid.proofs.pool.flags_of.Given as goal

abbrev pub invariant-loop-b : goal.invariant-loop-b
invariant-loop-b l = let test = block_flag (kernel l.state) l.p.0 in Left (all test (count_from 0 (suc blocks))) test blocks l.b

abbrev pub decreases-loop-b : goal.decreases-loop-b
decreases-loop-b l = suc blocks - l.b
