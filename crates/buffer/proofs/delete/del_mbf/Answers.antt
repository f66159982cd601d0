-- `del_mbf` meets its contract: the field names a buffer, which is deleted. Assumes nothing.
use mir.Facts.{to_z-of_z}
use Rattle.model.proofs.NumberLaws.{buffer_kind}
use Rattle.reply.proofs.Deletions.{delete-named}
use Rattle.buffer.proofs.Deleting.{deletes-buffer}
use Rattle.state.proofs.WordLaws.{long}
use Rattle.buffer.proofs.delete.del_mbf.Goals as goal

pub returns-in_default : goal.returns-in_default
returns-in_default c = absurd (delete-named buffer_kind _ _ (to_z-of_z c.ranges.buffer) c.from_field-found.ensures c.requires c.in_default.is)

pub returns : goal.returns
returns c =
    deletes-buffer _ (to_z-of_z c.ranges.buffer) c.from_field-found.ensures c.in-Some.is _ (long _ c.told-state) c.log_answer-waits.ensures
    c.delete-next.ensures
