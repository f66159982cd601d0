-- `set_every_current` meets its contract. The loop's invariant: the tasks passed have the number. Assumes nothing.
use native.Mathlib.Omega.{arith}
use Rattle.state.proofs.Currents.{fill_start, fill_step, fill_done}
use Rattle.state.proofs.WordLaws.{long}
use Rattle.state.proofs.task.set_every_current.Goals as goal

-- GONE same_length : tie.Need-same-length invariant-loop decreases-loop
-- same_length c =
--     let start = c.before.before.before.before.before.before.before in
--     c.before.loop.invariant.state.length ∙ sym start.requires

pub loop-n-init : goal.loop-n-init
loop-n-init c = search fill_start

pub loop-n-smaller : goal.loop-n-smaller
loop-n-smaller c = omega arith

pub loop-n-preserved : goal.loop-n-preserved
loop-n-preserved c = search fill_step

pub returns : goal.returns
returns c = search (long, fill_done)
