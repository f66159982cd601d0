-- `oldest` meets its contract. The loop's invariant: what is found from here on is what is found at all. Assumes nothing.
use Prim.Native.Nat.{ℕ, ◌-◌, ◌≤◌}
use mathlib.Core.Path.{◌≡◌}
use mathlib.Core.List.{List}
use lib.ListN.{drop}
use Rattle.model.specs.Sizes.{tasks}
use Rattle.model.specs.Lists.{select, head_of}
use Rattle.model.specs.Facts.{queue}
use Rattle.model.specs.Kernel.{stands_in}
use Rattle.model.specs.Words.{kernel}
use Rattle.queue.proofs.front.oldest.Given as goal

abbrev pub left : List ℕ → ℕ → ℕ → ℕ → ℕ
left w place object i = head_of (select (stands_in (kernel w) (queue place object)) (drop i (kernel w).arrivals))

abbrev pub invariant-loop-i : goal.invariant-loop-i
invariant-loop-i l = (left l.state l.place l.object 0 ≡ left l.state l.place l.object l.i) × (l.i ≤ tasks)

abbrev pub decreases-loop-i : goal.decreases-loop-i
decreases-loop-i l = tasks - l.i
