-- `chg_pri` meets its contract: a task is chosen. Assumes nothing.
use mir.Facts.{to_z-of_z}
use borrow.Author.Rules.{rules}
use Rattle.task.proofs.Changing.{change-named, changes}
use Rattle.state.proofs.WordLaws.{long}
use Rattle.task.proofs.change.chg_pri.Goals as goal

pub returns-in_default : goal.returns-in_default
returns-in_default c =
    let e = to_z-of_z c.ranges.task in
    absurd (change-named _ _ (λ z. search rules) (rw e at c.chosen_task-found.ensures) _
    c.requires.priority_value c.in_default.is)

pub returns : goal.returns
returns c =
    changes _ _ _ (long _ c.told-state) (rw (to_z-of_z c.ranges.task) at c.chosen_task-found.ensures) c.in-Some.is
    (rw (to_z-of_z c.ranges.priority) at c.chosen_base.ensures) c.change_base.ensures c.log_answer.ensures
