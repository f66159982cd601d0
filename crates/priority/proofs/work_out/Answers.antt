-- `work_out` meets its contract. The loop's invariant: the tasks passed have passed their current priorities on. Assumes nothing.
use Rattle.state.proofs.WordLaws.{long}
use mathlib.Core.Path.{◌≡◌, ◌∙◌, ap}
use native.Mathlib.Omega.{arith}
use Rattle.model.specs.Sizes.{tasks}
use Rattle.model.specs.Kernel.{Kernel}
use Rattle.priority.specs.Afresh.{passed_on}
use Rattle.priority.proofs.WordLaws.{onto, turn}
use Rattle.priority.proofs.WalkLaws.{place-length}
use Rattle.priority.proofs.PassLaws.{passed_so_far, passed_start, passed-step, passed-done}
use Rattle.priority.proofs.work_out.Goals as goal

pub loop-n-init : goal.loop-n-init
loop-n-init c = (record { length = c.start_from_own.ensures.length; kernel = passed_start _ }, omega arith)

pub pass_on-requires : goal.pass_on-requires
pass_on-requires c = record { le_n = omega arith; n_le_tasks = omega arith }

pub loop-n-preserved : goal.loop-n-preserved
loop-n-preserved c = (turn passed_so_far passed_on _ _ c.loop-n.invariant.0 c.pass_on.ensures (passed-step _ _), omega arith)

pub returns : goal.returns
returns c =
    let e : c.loop-n.n ≡ tasks = omega arith in
    onto c.loop-n.invariant.0
    (ap (passed_so_far _) e ∙ ap (λ (k : Kernel). passed_so_far k tasks) c.start_from_own.ensures.kernel ∙ passed-done _ (place-length _ (long _ c.told-state)))
