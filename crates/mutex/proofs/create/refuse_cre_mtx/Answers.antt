-- `refuse_cre_mtx` meets its contract: each test is a condition of the table, in its order. Assumes nothing.
use mir.Facts.{to_z-of_z}
use Rattle.mutex.proofs.Creating.{create-attribute, create-ceiling, create-full, create-allowed}
use Rattle.mutex.proofs.create.refuse_cre_mtx.Goals as goal

pub returns-then-attribute-allowed : goal.returns-then-attribute-allowed
returns-then-attribute-allowed c = search (create-attribute, to_z-of_z)

pub returns-then-a-bad : goal.returns-then-a-bad
returns-then-a-bad c = search (create-ceiling, to_z-of_z)

pub returns-in_default : goal.returns-in_default
returns-in_default c = search (create-full, to_z-of_z)

pub returns : goal.returns
returns c = search (create-allowed, to_z-of_z)
