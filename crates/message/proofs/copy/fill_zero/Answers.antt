-- `fill_zero` meets its contract: it ends at the end of the slice. Assumes nothing.
use native.Mathlib.Omega.{arith}
use mathlib.Core.Path.{◌∙◌, sym, ap}
use lib.ListN.{drop, length-drop, length-replicate}
use lib.Seq.{length-take-le}
use Rattle.model.specs.Lists.{zeros}
use Rattle.model.proofs.ListLaws.{take-zeros}
use Rattle.message.proofs.Stores.{sets-out, sets-part}
use Rattle.message.proofs.copy.fill_zero.Goals as goal

pub returns-then-at-r : goal.returns-then-at-r
returns-then-at-r c =
    let a = c.args in
    sets-part (zeros a.n) a.r.now a.at _ (simp length-replicate (omega arith))
    (c.fill.ensures.after (λ y e. e)
    ∙ ap zeros (length-take-le _ (drop a.at a.r.now) (rw length-drop (omega arith)))
    ∙ sym (take-zeros _ a.n (omega arith)))

pub returns-else-at-r : goal.returns-else-at-r
returns-else-at-r c =
    let a = c.args in
    sym (sets-out (zeros a.n) a.r.now a.at c.if-at-r.false)
