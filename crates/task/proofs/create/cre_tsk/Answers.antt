-- `cre_tsk` meets its contract: there is an unused number. Assumes nothing.
use native.Mathlib.Omega.{arith}
use mir.Facts.{to_z-of_z}
use Rattle.model.proofs.NumberLaws.{task_kind}
use Rattle.reply.proofs.Creations.{new-fits}
use Rattle.task.proofs.Creating.{create-room, creates-task}
use Rattle.state.proofs.WordLaws.{long}
use Rattle.task.proofs.create.cre_tsk.Goals as goal

pub returns-in_default : goal.returns-in_default
returns-in_default c = absurd (search (create-room))

pub answer_number-answer-requires : goal.answer_number-answer-requires
answer_number-answer-requires c = new-fits task_kind _ c.unused_task-found.ensures (omega arith) c.in-Some.is c.word.ensures

pub returns : goal.returns
returns c =
    creates-task _ _ (to_z-of_z c.ranges.priority) (long _ c.told-state) c.unused_task-found.ensures c.in-Some.is
    c.word.ensures
    c.answer_number-answer.ensures c.natural.ensures c.set_row.ensures c.log_answer.ensures
