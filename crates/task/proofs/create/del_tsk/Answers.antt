-- `del_tsk` meets its contract: the field names a task. Assumes nothing.
use mir.Facts.{to_z-of_z}
use Rattle.task.proofs.Creating.{dormant-named, deletes}
use Rattle.state.proofs.WordLaws.{long}
use Rattle.task.proofs.create.del_tsk.Goals as goal

pub returns-in_default : goal.returns-in_default
returns-in_default c = absurd (search (dormant-named, to_z-of_z))

pub returns : goal.returns
returns c =
    deletes _ _ (to_z-of_z c.ranges.task) (long _ c.told-state) c.from_field-found.ensures c.in-Some.is c.set_row.ensures
    c.log_answer.ensures
