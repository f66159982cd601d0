-- `end_wait_block` meets its contract: two items of the log are the one of an ended wait. Assumes nothing.
use mir.Facts.{to_z-of_z}
use Rattle.act.proofs.Ending.{ends-delivering}
use Rattle.act.proofs.wait.end_wait_block.Goals as goal

pub returns : goal.returns
returns c =
    ends-delivering _ c.unblock.ensures (to_z-of_z
    c.ranges.code)
    c.log_ended-next.ensures c.log_block.ensures
