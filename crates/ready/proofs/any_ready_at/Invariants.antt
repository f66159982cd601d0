-- What is asked of each task.
use Rattle.model.specs.Words.{kernel}
use Rattle.ready.specs.Tasks.{is_ready_at}
use Rattle.ready.proofs.any_ready_at.Given as goal

abbrev pub ghost-any : goal.ghost-any
ghost-any a = is_ready_at (kernel a.test.0.now) a.test.1.now
