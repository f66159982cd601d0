-- `any_ready_at` meets its contract: the definition asks any task. Assumes nothing.
use Rattle.model.specs.Queue.{ready_at}
use Rattle.ready.specs.Tasks.{is_ready, is_ready_at}
use Rattle.ready.proofs.any_ready_at.Goals as goal

pub returns : goal.returns
unfolding ready_at is_ready_at is_ready
returns c = c.any.ensures
