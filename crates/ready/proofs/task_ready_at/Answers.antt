-- `task_ready_at` meets its contract: of a task that is ready its priority decides. Assumes nothing.
use Rattle.ready.proofs.ReadyLaws.{not-ready-at, ready-at-is}
use Rattle.ready.proofs.task_ready_at.Goals as goal

pub returns-in_default : goal.returns-in_default
returns-in_default c = not-ready-at _ _ c.ready_task-found.ensures _ c.in_default.is

pub returns : goal.returns
returns c = ready-at-is _ _ c.ready_task-found.ensures c.in-Some.is c.current.ensures _
