-- The two walks, which call each other. A task's measure is twice the number of tasks not yet visited: a raise visits one of them. A mutex's lies
-- between, one more than that of the task that it leads to.
use Prim.Native.Nat.{◌+◌, ◌*◌}
use Rattle.model.specs.Words.{kernel}
use Rattle.priority.proofs.StepLaws.{unvisited}
use Rattle.priority.proofs.walk.+raise_mutex_raise_task.Given as goal

abbrev pub decreases-raise_mutex : goal.decreases-raise_mutex
decreases-raise_mutex l = 2 * unvisited l.p (kernel l.state.now).tasks.current + 1

abbrev pub decreases-raise_task : goal.decreases-raise_task
decreases-raise_task l = 2 * unvisited l.p (kernel l.state.now).tasks.current
