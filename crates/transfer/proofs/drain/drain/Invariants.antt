-- `drain` meets its contract. The loop's invariant: the buffers that are left do the rest. Assumes nothing.
use Prim.Native.Nat.{◌+◌, ◌-◌, ◌≤◌}
use mathlib.Core.Path.{◌≡◌}
use lib.ListN.{length}
use Rattle.model.specs.Sizes.{buffers}
use Rattle.model.specs.Lists.{count_from}
use Rattle.model.specs.Act.{drain}
use Rattle.model.specs.Words.{word_count}
use Rattle.act.specs.Held.{areas}
use Rattle.act.proofs.Loop.{Left, over}
use Rattle.transfer.specs.Serving.{served}
use Rattle.transfer.proofs.drain.drain.Given as goal

abbrev pub invariant-loop-n : goal.invariant-loop-n
invariant-loop-n l = Left drain (over served (count_from (l.n + 1) (buffers - l.n))) (areas l.initial.state l.initial.store l.initial.outbox l.initial.log) l.initial.next (areas l.state l.store l.outbox l.log) l.next
    × (l.n ≤ buffers) × (length l.state ≡ word_count) × (length l.store ≡ length l.initial.store) × (length l.outbox ≡ length l.initial.outbox) × (length l.log ≡ length l.initial.log)

abbrev pub decreases-loop-n : goal.decreases-loop-n
decreases-loop-n l = buffers - l.n
