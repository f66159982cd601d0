-- `begin_wait` meets its contract: its steps are those of the definition. Assumes nothing.
use mir.Facts.{to_z-of_z}
use Rattle.act.proofs.Ending.{begins}
use Rattle.act.proofs.wait.begin_wait.Goals as goal

pub returns : goal.returns
returns c =
    let e = to_z-of_z c.ranges.timeout in
    begins _ _ _ _ _ _ c.arrive.ensures c.set_argument.ensures (rw e at c.millis.ensures)
    c.set_left.ensures
