-- `cre_mbf` meets its contract: a number is unused, and its entries are filled. Assumes nothing.
use native.Mathlib.Omega.{arith}
use mir.Facts.{to_z-of_z}
use Rattle.model.proofs.NumberLaws.{buffer_kind}
use Rattle.reply.proofs.Creations.{new-fits}
use Rattle.buffer.proofs.Creating.{create-room, creates-buffer}
use Rattle.state.proofs.WordLaws.{long}
use Rattle.buffer.proofs.create.cre_mbf.Goals as goal

pub returns-in_default : goal.returns-in_default
returns-in_default c = absurd (search (create-room))

pub answer_number-answer-requires : goal.answer_number-answer-requires
answer_number-answer-requires c = new-fits buffer_kind _ c.unused_buffer-found.ensures (omega arith) c.in-Some.is c.word.ensures

pub returns : goal.returns
returns c =
    creates-buffer _ _ _ (to_z-of_z c.ranges.attribute) (to_z-of_z c.ranges.bufsz) (to_z-of_z c.ranges.maxmsz) _ (long _ c.told-state) c.unused_buffer-found.ensures
    c.in-Some.is c.word.ensures c.answer_number-answer.ensures c.log_answer-next.ensures
    c.natural.ensures c.natural-2.ensures c.natural-3.ensures c.set_row.ensures
