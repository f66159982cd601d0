-- `refuse_unl_mtx` meets its contract: each test is a condition of the table, in its order. Assumes nothing.
use mir.Facts.{to_z-of_z}
use Rattle.mutex.proofs.Unlocking.{unlock-allowed, unlock-unheld, unlock-missing, unlock-numberless}
use Rattle.mutex.proofs.unlock.refuse_unl_mtx.Goals as goal

pub returns-in_default : goal.returns-in_default
returns-in_default c = search (unlock-numberless, to_z-of_z)

pub returns-then-exists-eq0 : goal.returns-then-exists-eq0
returns-then-exists-eq0 c = search (unlock-missing, to_z-of_z)

pub returns-then-holder-word : goal.returns-then-holder-word
returns-then-holder-word c = search (unlock-unheld, to_z-of_z)

pub returns : goal.returns
returns c = search (unlock-allowed, to_z-of_z)
