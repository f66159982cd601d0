-- `clear` meets its contract. The loop's invariant: the places passed are none's. Assumes nothing.
use native.Mathlib.Omega.{arith}
use Rattle.queue.proofs.ArrivingLaws.{clear-start, clear-more, clear-done}
use Rattle.state.proofs.WordLaws.{long}
use Rattle.queue.proofs.arrival.clear.Goals as goal

-- GONE same_length : tie.Need-same-length invariant-loop decreases-loop
-- same_length c = let g = c.before.loop.invariant in g.state.length ∙ sym g.start

pub loop-i-init : goal.loop-i-init
loop-i-init c = clear-start _ _ (long _ c.told-state)

pub loop-i-smaller : goal.loop-i-smaller
loop-i-smaller c = omega arith

pub loop-i-preserved : goal.loop-i-preserved
loop-i-preserved c = search clear-more

pub returns : goal.returns
returns c = clear-done _ _ _ _ c.loop-i-test.false c.loop-i.invariant
