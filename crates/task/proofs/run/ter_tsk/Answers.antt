-- `ter_tsk` meets its contract: the field names a task. Assumes nothing.
use mir.Facts.{to_z-of_z}
use Rattle.task.proofs.Ending.{end-named, terminates}
use Rattle.state.proofs.WordLaws.{long}
use Rattle.task.proofs.run.ter_tsk.Goals as goal

pub returns-in_default : goal.returns-in_default
returns-in_default c = absurd (search (end-named, to_z-of_z))

pub returns : goal.returns
returns c =
    terminates _ (long _ c.told-state) _ (to_z-of_z c.ranges.task) c.from_field-found.ensures c.in-Some.is c.log_answer-waits.ensures
    c.become_dormant.ensures
