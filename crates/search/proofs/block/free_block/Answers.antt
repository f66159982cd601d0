-- `free_block` meets its contract. The loop's invariant: the first free block is that of the blocks still to be seen. Assumes nothing.
use Rattle.search.proofs.Blocks.{search-all, search-hit, search-more, search-done}
use Rattle.search.proofs.block.free_block.Goals as goal

pub loop-i-init : goal.loop-i-init
loop-i-init c = search search-all

pub returns-then-flag-eq0 : goal.returns-then-flag-eq0
returns-then-flag-eq0 c = search search-hit

pub loop-i-preserved : goal.loop-i-preserved
loop-i-preserved c = search search-more

pub returns : goal.returns
returns c = search search-done
