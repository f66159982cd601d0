-- `ext_tsk` meets its contract. Assumes nothing.
use Rattle.task.proofs.Ending.{exits}
use Rattle.state.proofs.WordLaws.{long}
use Rattle.task.proofs.run.ext_tsk.Goals as goal

pub returns : goal.returns
returns c = search (long, exits)
