-- `loc_mtx` meets its contract: the holder says whether the caller waits. Assumes nothing.
use mathlib.Core.Path.{◌∙◌, sym}
use mir.Facts.{to_z-of_z}
use Rattle.mutex.proofs.Locking.{lock-named, locks-waiting, locks-free}
use Rattle.state.proofs.WordLaws.{long}
use Rattle.mutex.proofs.lock.loc_mtx.Goals as goal

pub returns-in_default : goal.returns-in_default
returns-in_default c =
    absurd (lock-named _ _ (to_z-of_z c.ranges.mutex) c.from_field-found.ensures _
    c.requires.timeout_value c.in_default.is)

pub returns-then-holder-ne0 : goal.returns-then-holder-ne0
returns-then-holder-ne0 c =
    locks-waiting _ _ (to_z-of_z c.ranges.mutex) c.from_field-found.ensures c.in-Some.is
    (long _ c.told-state) c.requires.caller_value c.holder.ensures c.if-holder-ne0.true c.log_answer-next.ensures (to_z-of_z c.ranges.timeout)
    c.wait_for.ensures

pub take-requires : goal.take-requires
take-requires c =
    record { priorities = c.requires.priorities; bitmap = c.requires.bitmap; each = c.requires.each; m_value = sym c.holder.ensures ∙ c.if-holder-ne0.false }

pub returns : goal.returns
returns c =
    locks-free _ _ (to_z-of_z c.ranges.mutex) c.from_field-found.ensures c.in-Some.is
    (long _ c.told-state) c.requires.caller_value c.holder.ensures c.if-holder-ne0.false c.log_answer-next-2.ensures c.take.ensures
