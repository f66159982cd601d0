-- `end_waits` meets its contract: what is left is the order from the next place on. Assumes nothing.
use lib.ListN.{drop}
use Rattle.model.specs.Act.{end_wait, end_waits}
use Rattle.model.specs.World.{Nothing}
use Rattle.act.proofs.Loop.{LeftInLog, over}
use Rattle.act.proofs.waits.end_waits.Given as goal

abbrev pub invariant-loop-n : goal.invariant-loop-n
invariant-loop-n l = LeftInLog (λ w. end_waits w l.order l.code) (over (λ t w. end_wait w t l.code Nothing)
    (drop l.n-index l.order)) l.initial.state l.initial.outbox l.initial.log l.initial.next l.state l.outbox l.log l.next
