-- `set_holder_to_own` meets its contract: the holder is a task, or nobody. Assumes nothing.
use Rattle.state.proofs.WordLaws.{long}
use native.Mathlib.Omega.{arith}
use mathlib.Core.Path.{◌∙◌, sym}
use Rattle.model.specs.Sizes.{tasks}
use Rattle.model.proofs.NumberLaws.{Names, task-there, task-none}
use Rattle.model.specs.Words.{kernel}
use Rattle.priority.specs.Own.{ceiling_holder}
use Rattle.priority.proofs.WordLaws.{unchanged, onto}
use Rattle.priority.proofs.StartLaws.{holder-none, holder-task}
use Rattle.priority.proofs.set_holder_to_own.Goals as goal

pub returns-in_default : goal.returns-in_default
returns-in_default c = onto (unchanged (long _ c.told-state)) (holder-none _ _ (task-none _ (sym c.ceiling_holder.ensures ∙ c.in_default.is)))

pub own_priority-p-requires : goal.own_priority-p-requires
own_priority-p-requires c =
    let is-holder : let a = c.args in Names tasks (ceiling_holder (kernel a.state.now) a.n) c.in-Some.t.0 = task-there _ _ (sym c.ceiling_holder.ensures ∙ c.in-Some.is) in
    let names = is-holder in (omega arith)

pub returns : goal.returns
returns c =
    let is-holder : let a = c.args in Names tasks (ceiling_holder (kernel a.state.now) a.n) c.in-Some.t.0 = task-there _ _ (sym c.ceiling_holder.ensures ∙ c.in-Some.is) in
    onto (rw c.own_priority-p.ensures at c.set_current.ensures) (holder-task _ _ (is-holder))
