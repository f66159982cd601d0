-- `next_to_run` meets its contract. The loops' invariants: what is left of the search decides what it finds. Assumes nothing.
use Rattle.std.specs.Prelude.{None}
use Prim.Native.Nat.{suc, ◌-◌}
use mathlib.Core.Path.{◌≡◌}
use Rattle.model.specs.Sizes.{tasks, priorities}
use Rattle.queue.proofs.NextLaws.{Searching, Looking}
use Rattle.queue.proofs.next.next_to_run.Given as goal

abbrev pub invariant-loop-i : goal.invariant-loop-i
invariant-loop-i l = (l.found ≡ None) × Looking l.state l.p l.i

abbrev pub decreases-loop-i : goal.decreases-loop-i
decreases-loop-i l = tasks - l.i

abbrev pub invariant-search : goal.invariant-search
invariant-search l = (l.found ≡ None) × Searching l.state l.p

abbrev pub decreases-search : goal.decreases-search
decreases-search l = suc priorities - l.p
