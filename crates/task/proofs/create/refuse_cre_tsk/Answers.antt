-- `refuse_cre_tsk` meets its contract: each test is a condition of the table, in its order. Assumes nothing.
use mir.Facts.{to_z-of_z}
use Rattle.task.proofs.Creating.{create-outside, create-full, create-allowed}
use Rattle.task.proofs.create.refuse_cre_tsk.Goals as goal

pub returns-then-outside : goal.returns-then-outside
returns-then-outside c = search (create-outside, to_z-of_z)

pub returns-in_default : goal.returns-in_default
returns-in_default c = search (create-full, to_z-of_z)

pub returns : goal.returns
returns c = search (create-allowed, to_z-of_z)
