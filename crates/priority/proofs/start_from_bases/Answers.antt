-- `start_from_bases` meets its contract. The loop's invariant: the tasks passed have their base priorities. Assumes nothing.
use mathlib.Core.Path.{◌≡◌, ◌∙◌, ap}
use native.Mathlib.Omega.{arith}
use Rattle.model.specs.Sizes.{tasks}
use Rattle.model.specs.Kernel.{Kernel, with_current}
use Rattle.priority.specs.Own.{base_of}
use Rattle.priority.proofs.WordLaws.{onto, turn}
use Rattle.priority.proofs.StartLaws.{bases_so_far, bases-start, bases-step, bases-all}
use Rattle.priority.proofs.start_from_bases.Goals as goal

pub loop-n-init : goal.loop-n-init
loop-n-init c = let r = c.set_every_current.ensures in (record { length = r.length; kernel = rw r.kernel (bases-start _) }, omega arith)

pub set_to_base-requires : goal.set_to_base-requires
set_to_base-requires c = record { le_n = omega arith; n_le_tasks = omega arith }

pub loop-n-preserved : goal.loop-n-preserved
loop-n-preserved c = (turn bases_so_far (λ k n. with_current k n (base_of k n)) _ _ c.loop-n.invariant.0 c.set_to_base.ensures (bases-step _ _ (omega arith)), omega arith)

pub returns : goal.returns
returns c =
    let e : c.loop-n.n ≡ tasks = omega arith in
    onto c.loop-n.invariant.0 (ap (bases_so_far _) e ∙ ap (λ (k : Kernel). bases_so_far k tasks) c.set_every_current.ensures.kernel ∙ bases-all _)
