-- `end_wait` meets its contract. Assumes nothing.
use mir.Facts.{to_z-of_z}
use Rattle.act.proofs.Ending.{ends-nothing}
use Rattle.act.proofs.wait.end_wait.Goals as goal

pub returns : goal.returns
returns c =
    ends-nothing c.unblock.ensures (to_z-of_z
    c.ranges.code)
    c.log_ended.ensures
