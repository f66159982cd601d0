-- `most_urgent` meets its contract. The loop's invariant: the best from here on, from the best so far, is the best at all. Assumes nothing.
use Prim.Native.Nat.{ℕ, ◌-◌, ◌≤◌}
use mathlib.Core.Path.{◌≡◌}
use mathlib.Core.List.{List, foldl}
use lib.ListN.{drop}
use Rattle.model.specs.Sizes.{tasks}
use Rattle.model.specs.Lists.{select}
use Rattle.model.specs.Facts.{queue}
use Rattle.model.specs.Kernel.{numbered, stands_in}
use Rattle.model.specs.Words.{kernel}
use Rattle.queue.specs.Better.{better}
use Rattle.queue.proofs.front.most_urgent.Given as goal

abbrev pub left : List ℕ → ℕ → ℕ → ℕ → ℕ → ℕ
left w place object best i = foldl (better (numbered (kernel w).tasks.current)) best (select (stands_in (kernel w) (queue place object)) (drop i (kernel w).arrivals))

abbrev pub invariant-loop-i : goal.invariant-loop-i
invariant-loop-i l = (left l.state l.place l.object 0 0 ≡ left l.state l.place l.object l.best l.i) × (l.i ≤ tasks)

abbrev pub decreases-loop-i : goal.decreases-loop-i
decreases-loop-i l = tasks - l.i
