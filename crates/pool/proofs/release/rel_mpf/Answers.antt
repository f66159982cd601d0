-- `rel_mpf` meets its contract: the field names a pool, to which the block goes back. Assumes nothing.
use mir.Facts.{to_z-of_z}
use Rattle.pool.proofs.Returning.{return_named, returns-block}
use Rattle.state.proofs.WordLaws.{long}
use Rattle.pool.proofs.release.rel_mpf.Goals as goal

pub returns-in_default : goal.returns-in_default
returns-in_default c = absurd (search (return_named, to_z-of_z))

pub returns : goal.returns
returns c =
    returns-block _ _ (to_z-of_z c.ranges.pool) (to_z-of_z c.ranges.block) c.from_field-found.ensures
    c.in-Some.is _ (long _ c.told-state) c.log_answer-waits.ensures
    c.natural.ensures c.give_back-next.ensures
