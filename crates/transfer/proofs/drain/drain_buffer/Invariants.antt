-- `drain_buffer` meets its contract. The loop's invariant: the turns that are left do the rest. Assumes nothing.
use Prim.Native.Nat.{◌-◌, ◌≤◌}
use mathlib.Core.Path.{◌≡◌}
use lib.ListN.{length}
use Rattle.model.specs.Sizes.{tasks}
use Rattle.model.specs.Words.{word_count}
use Rattle.act.specs.Held.{areas}
use Rattle.act.proofs.Loop.{Left}
use Rattle.transfer.specs.Serving.{served}
use Rattle.transfer.proofs.Serving.{turns}
use Rattle.transfer.proofs.drain.drain_buffer.Given as goal

abbrev pub invariant-loop : goal.invariant-loop
invariant-loop l = Left (served l.b.0) (turns (tasks - l.counter) l.b.0) (areas l.initial.state l.initial.store l.initial.outbox l.initial.log) l.initial.next (areas l.state l.store l.outbox l.log) l.next
    × (l.counter ≤ tasks) × (length l.state ≡ word_count) × (length l.store ≡ length l.initial.store) × (length l.outbox ≡ length l.initial.outbox) × (length l.log ≡ length l.initial.log)

abbrev pub decreases-loop : goal.decreases-loop
decreases-loop l = tasks - l.counter
