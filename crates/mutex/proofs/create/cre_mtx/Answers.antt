-- `cre_mtx` meets its contract: a number is unused, and its entries are filled. Assumes nothing.
use native.Mathlib.Omega.{arith}
use mir.Facts.{to_z-of_z}
use Rattle.model.proofs.NumberLaws.{mutex_kind}
use Rattle.reply.proofs.Creations.{new-fits}
use Rattle.mutex.proofs.Creating.{create-room, creates-mutex}
use Rattle.state.proofs.WordLaws.{long}
use Rattle.mutex.proofs.create.cre_mtx.Goals as goal

pub returns-in_default : goal.returns-in_default
returns-in_default c = absurd (create-room _ _ _ c.unused_mutex-found.ensures c.requires c.in_default.is)

pub answer_number-answer-requires : goal.answer_number-answer-requires
answer_number-answer-requires c = new-fits mutex_kind _ c.unused_mutex-found.ensures (omega arith) c.in-Some.is c.word.ensures

pub returns : goal.returns
returns c =
    creates-mutex _ _ (to_z-of_z c.ranges.attribute) (to_z-of_z c.ranges.ceiling) _ (long _ c.told-state) c.unused_mutex-found.ensures
    c.in-Some.is c.word.ensures c.answer_number-answer.ensures c.log_answer-next.ensures c.natural-a.ensures
    c.kept_ceiling-kept.ensures c.set_exists.ensures c.set_attribute.ensures c.set_ceiling.ensures
