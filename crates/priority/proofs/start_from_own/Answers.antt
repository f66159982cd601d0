-- `start_from_own` meets its contract. The loop's invariant: the holders of the mutexes passed have their own priorities, the other tasks their base priorities. Assumes nothing.
use mathlib.Core.Path.{◌≡◌, ◌∙◌, ap}
use native.Mathlib.Omega.{arith}
use Rattle.model.specs.Sizes.{mutexes}
use Rattle.priority.specs.Afresh.{at_own, holder_at_own}
use Rattle.priority.proofs.WordLaws.{onto, turn}
use Rattle.priority.proofs.StartLaws.{holders_so_far, holders-start, holders-step, holders-all, own-again}
use Rattle.priority.proofs.start_from_own.Goals as goal

pub loop-n-init : goal.loop-n-init
loop-n-init c = let r = c.start_from_bases.ensures in (record { length = r.length; kernel = rw r.kernel (holders-start _) }, omega arith)

pub set_holder_to_own-requires : goal.set_holder_to_own-requires
set_holder_to_own-requires c = record { le_n = omega arith; n_le_mutexes = omega arith }

pub loop-n-preserved : goal.loop-n-preserved
loop-n-preserved c = (turn holders_so_far holder_at_own _ _ c.loop-n.invariant.0 c.set_holder_to_own.ensures (holders-step _ _), omega arith)

pub returns : goal.returns
returns c =
    let e : c.loop-n.n ≡ mutexes = omega arith in
    onto c.loop-n.invariant.0 (ap (holders_so_far _) e ∙ holders-all _ ∙ ap at_own c.start_from_bases.ensures.kernel ∙ own-again _)
