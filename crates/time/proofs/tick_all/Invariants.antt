-- `tick_all` meets its contract: what is left are the tasks from the next one on. Assumes nothing.
use Prim.Native.Nat.{◌+◌, ◌-◌, ◌≤◌}
use Rattle.model.specs.Effect.{tick_task}
use Rattle.model.specs.Lists.{count_from}
use Rattle.model.specs.Sizes.{tasks}
use Rattle.time.specs.Ticks.{ticks}
use Rattle.act.proofs.Loop.{LeftInLog, over}
use Rattle.time.proofs.tick_all.Given as goal

abbrev pub invariant-loop-n : goal.invariant-loop-n
invariant-loop-n l = LeftInLog ticks (over (λ t w. tick_task w t) (count_from (l.n + 1) (tasks - l.n))) l.initial.state l.initial.outbox l.initial.log l.initial.next l.state l.outbox l.log l.next × (l.n ≤ tasks)

abbrev pub decreases-loop-n : goal.decreases-loop-n
decreases-loop-n l = tasks - l.n
