-- `refuse_not_dormant` meets its contract: each test is a condition of the table, in its order. Assumes nothing.
use mir.Facts.{to_z-of_z}
use Rattle.task.proofs.Creating.{dormant-numberless, dormant-missing, dormant-awake, dormant-allowed}
use Rattle.task.proofs.create.refuse_not_dormant.Goals as goal

pub returns-in_default : goal.returns-in_default
returns-in_default c = search (dormant-numberless, to_z-of_z)

pub returns-then-place-eq-ABSENT : goal.returns-then-place-eq-ABSENT
returns-then-place-eq-ABSENT c = search (dormant-missing, to_z-of_z)

pub returns-then-place-ne-DORMANT : goal.returns-then-place-ne-DORMANT
returns-then-place-ne-DORMANT c = search (dormant-awake, to_z-of_z)

pub returns : goal.returns
returns c = search (dormant-allowed, to_z-of_z)
