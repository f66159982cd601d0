-- `handed_out` meets its contract: the sign of the field picks the case. Assumes nothing.
use mir.Facts.{to_z-of_z}
use Rattle.search.proofs.Blocks.{not-handed, by_flag}
use Rattle.search.proofs.block.handed_out.Goals as goal

pub returns-then-block-lt1 : goal.returns-then-block-lt1
returns-then-block-lt1 c = not-handed _ _ _ (rw (to_z-of_z c.ranges.block) at c.if-block-lt1.true)

pub returns : goal.returns
returns c =
    let e = to_z-of_z c.ranges.block in
    by_flag _ _ _ _ _ _ (rw e at c.if-block-lt1.false) (rw e at c.natural-b.ensures) c.count-count.ensures
    c.taken-flag.ensures
