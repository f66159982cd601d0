-- `unl_mtx` meets its contract: the field names a mutex, which is given up. Assumes nothing.
use mir.Facts.{to_z-of_z}
use Rattle.mutex.proofs.Unlocking.{unlock-named, unlocks}
use Rattle.state.proofs.WordLaws.{long}
use Rattle.mutex.proofs.unlock.unl_mtx.Goals as goal

pub returns-in_default : goal.returns-in_default
returns-in_default c =
    absurd (unlock-named _ _ (to_z-of_z c.ranges.mutex) c.from_field-found.ensures
    c.requires.mutex_value c.in_default.is)

pub returns : goal.returns
returns c =
    unlocks _ (to_z-of_z c.ranges.mutex) c.from_field-found.ensures c.in-Some.is _ (long _ c.told-state) c.log_answer-waits.ensures
    c.release_settled-next.ensures
