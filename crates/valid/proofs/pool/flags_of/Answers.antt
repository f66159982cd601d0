-- `flags_of` meets its contract. The loop's invariant: the blocks still to be asked decide. Assumes nothing.
use Rattle.model.proofs.Loops.{lefts}
use Rattle.valid.proofs.pool.flags_of.Goals as goal

pub loop-b-init : goal.loop-b-init
loop-b-init c = search lefts

pub returns-then-not-block_flag : goal.returns-then-not-block_flag
returns-then-not-block_flag c = search lefts

pub overflow_step-b : goal.overflow_step-b
overflow_step-b c = search lefts

pub loop-b-smaller : goal.loop-b-smaller
loop-b-smaller c = search lefts

pub loop-b-preserved : goal.loop-b-preserved
loop-b-preserved c = search lefts

pub returns : goal.returns
returns c = search lefts
