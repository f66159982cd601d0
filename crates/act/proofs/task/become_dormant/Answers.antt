-- `become_dormant` meets its contract. Assumes nothing.
use Rattle.act.proofs.Tasks.{becomes-dormant}
use Rattle.act.proofs.task.become_dormant.Goals as goal

pub returns : goal.returns
returns c =
    becomes-dormant _ c.retire.ensures
    c.release_all.ensures
