-- `refuse_ter_tsk` meets its contract: each test is a condition of the table, in its order. Assumes nothing.
use mir.Facts.{to_z-of_z}
use Rattle.task.proofs.Ending.{end-numberless, end-missing, end-asleep, end-allowed}
use Rattle.task.proofs.run.refuse_ter_tsk.Goals as goal

pub returns-in_default : goal.returns-in_default
returns-in_default c = search (end-numberless, to_z-of_z)

pub returns-then-stands-eq-ABSENT : goal.returns-then-stands-eq-ABSENT
returns-then-stands-eq-ABSENT c = search (end-missing, to_z-of_z)

pub returns-then-stands-word : goal.returns-then-stands-word
returns-then-stands-word c = search (end-asleep, to_z-of_z)

pub returns : goal.returns
returns c = search (end-allowed, to_z-of_z)
