-- `task_valid` meets its contract: each test answers its own clause. Assumes nothing.
use Rattle.valid.proofs.Check.{task-tests}
use Rattle.valid.proofs.object.task_valid.Goals as goal

pub returns : goal.returns
returns c = search task-tests
