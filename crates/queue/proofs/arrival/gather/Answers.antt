-- `gather` meets its contract. The loop's invariant: the places seen are gathered, and j counts the others among them. Assumes nothing.
use native.Mathlib.Omega.{arith}
use Rattle.queue.proofs.ArrivingLaws.{gather-start, gather-more, gather-done}
use Rattle.state.proofs.WordLaws.{long}
use Rattle.queue.proofs.arrival.gather.Goals as goal

-- GONE same_length : tie.Need-same-length invariant-loop decreases-loop
-- same_length c = let g = c.before.loop.invariant in g.state.length ∙ sym g.start

pub loop-i-init : goal.loop-i-init
loop-i-init c = gather-start _ _ (long _ c.told-state)

pub keep-j-requires : goal.keep-j-requires
keep-j-requires c = let g = c.loop-i.invariant in let f = g.few in let w = g.within in omega arith

pub loop-i-smaller : goal.loop-i-smaller
loop-i-smaller c = omega arith

pub loop-i-preserved : goal.loop-i-preserved
loop-i-preserved c = search gather-more

pub returns : goal.returns
returns c = gather-done _ _ _ _ _ c.loop-i-test.false c.loop-i.invariant
