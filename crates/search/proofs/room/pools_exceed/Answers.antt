-- `pools_exceed` meets its contract. The loop's invariant: the pools still to be counted and the bytes that are left decide. Assumes nothing.
use borrow.Author.Rules.{rules}
use Rattle.model.specs.Refusal.{pool_sum}
use Rattle.search.proofs.Sums.{add-first-over, add-all, add-over, add-more, add-never, add_done}
use Rattle.search.proofs.room.pools_exceed.Goals as goal

pub returns-then-room-more : goal.returns-then-room-more
returns-then-room-more c = search add-first-over

pub loop-n-init : goal.loop-n-init
unfolding pool_sum
loop-n-init c = search (rules, add-all)

pub returns-in_default : goal.returns-in_default
returns-in_default c = search add-never

pub returns-then-room-taken : goal.returns-then-room-taken
returns-then-room-taken c = search add-over

pub loop-n-preserved : goal.loop-n-preserved
loop-n-preserved c = search add-more

pub returns : goal.returns
returns c = search add_done
