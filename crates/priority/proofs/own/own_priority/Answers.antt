-- `own_priority` meets its contract. The loop's invariant: the most urgent of the base and of the ceilings held of the mutexes passed. Assumes nothing.
use mathlib.Core.Path.{◌≡◌, ◌∙◌}
use native.Mathlib.Numerals.{add-one}
use native.Mathlib.Omega.{arith}
use Rattle.model.specs.Sizes.{mutexes}
use Rattle.model.specs.Words.{kernel}
use Rattle.priority.proofs.OwnLaws.{own-start, own-step, own-all}
use Rattle.priority.proofs.own.own_priority.Goals as goal

pub loop-n-init : goal.loop-n-init
loop-n-init c = (c.base-p.ensures ∙ own-start _ _ (omega arith), omega arith)

pub loop-n-preserved : goal.loop-n-preserved
loop-n-preserved c =
    let i = c.loop-n.n in
    let a = c.args in (
      c.with_ceiling-p.ensures
          ∙ rw (c.loop-n.invariant.0, add-one i) (own-step (kernel a.state.now) a.t.0 i),
      omega arith,
    )

pub returns : goal.returns
returns c = let e : c.loop-n.n ≡ mutexes = omega arith in c.loop-n.invariant.0 ∙ rw e (own-all _ _)
