-- `release_all` meets its contract: what is left are the mutexes from the next one on. Assumes nothing.
use Prim.Native.Nat.{◌+◌, ◌-◌, ◌≤◌}
use Rattle.model.specs.Lists.{count_from}
use Rattle.model.specs.Act.{release_all}
use Rattle.model.specs.Sizes.{mutexes}
use Rattle.act.proofs.Loop.{LeftInLog, over}
use Rattle.act.specs.Ends.{release_held}
use Rattle.act.proofs.mutex.release_all.Given as goal

abbrev pub invariant-loop-n : goal.invariant-loop-n
invariant-loop-n l = LeftInLog (λ w. release_all w l.t.0) (over (release_held l.t.0) (count_from (l.n + 1) (mutexes - l.n))) l.initial.state l.initial.outbox l.initial.log l.initial.next l.state l.outbox l.log l.next ×
    (l.n ≤ mutexes)

abbrev pub decreases-loop-n : goal.decreases-loop-n
decreases-loop-n l = mutexes - l.n
