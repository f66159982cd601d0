-- `get_mpf` meets its contract: the free block says whether the caller waits. Assumes nothing.
use mir.Facts.{to_z-of_z}
use Rattle.pool.proofs.Getting.{get-named, gets-waiting, gets-block}
use Rattle.state.proofs.WordLaws.{long}
use Rattle.pool.proofs.get.get_mpf.Goals as goal

pub returns-in_default : goal.returns-in_default
returns-in_default c = absurd (search (get-named, to_z-of_z))

pub returns-then-block-eq0 : goal.returns-then-block-eq0
returns-then-block-eq0 c =
    gets-waiting _ _ (to_z-of_z c.ranges.pool) c.from_field-found.ensures
    c.in-Some.is (long _ c.told-state) c.requires.caller_value c.free_block-block.ensures
    c.if-block-eq0.true
    c.log_answer-next.ensures c.word.ensures (to_z-of_z c.ranges.timeout)
    c.wait.ensures

pub returns : goal.returns
returns c =
    gets-block _ _ (to_z-of_z c.ranges.pool) c.from_field-found.ensures
    c.in-Some.is (long _ c.told-state) c.requires.caller_value c.free_block-block.ensures
    c.if-block-eq0.false c.log_answer-delivery.ensures c.log_block-next.ensures
    c.set_taken.ensures
