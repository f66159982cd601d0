-- 01, "Priorities": the strict rule.
use Rattle.std.specs.Prelude.{ℕ, zero, suc, min, Bool, ◌&&◌, cond, ◌≢◌, ◌≡◌, eqb}
use mathlib.Core.List.{List, [], ◌∷◌, map, foldl}
use Rattle.model.specs.Sizes.{tasks, mutexes}
use Rattle.model.specs.Lists.{◌!◌, up_to, select, member}
use Rattle.model.specs.Facts.{Facts, locking, inherits, ceilinged}

-- "or through a chain of such steps": one step or more of a function from a task to the next one, 0 for none
pub data Linked (next : ℕ → ℕ) : ℕ → ℕ → Type 0 where
  step : {x y : ℕ} → next x ≡ y → y ≢ 0 → Linked next x y
  chain : {x y z : ℕ} → next x ≡ y → y ≢ 0 → Linked next y z → Linked next x z

-- the same as a test: the first n tasks after x, in a chain; no chain needs more steps than there are tasks
abbrev pub after : (ℕ → ℕ) → ℕ → ℕ → List ℕ
after next zero x = []
after next (suc n) x = elim (next x) [ zero ↦ [] | suc y ↦ suc y ∷ after next n (suc y) ]

unfoldable pub linked : (ℕ → ℕ) → ℕ → ℕ → Bool
linked next x y = member y (after next tasks x)

-- "X is linked to Y if X waits for an inheritance mutex (attribute 2) that Y holds": from X to Y
unfoldable pub holder_awaited : Facts → ℕ → ℕ
holder_awaited f x =
    let m = f.object ! x in
    cond (eqb (f.place ! x) locking && eqb (f.mutex_attribute ! m) inherits) (f.holder ! m) 0

-- the most urgent of a priority and more
abbrev pub most_urgent : ℕ → List ℕ → ℕ
most_urgent p ps = foldl min p ps

-- "the base priorities and held ceilings (attribute 3) of the task itself"
unfoldable pub own_priority : Facts → ℕ → ℕ
own_priority f t =
    most_urgent (f.base ! t)
    (map (λ m. f.ceiling ! m) (select (λ m. eqb (f.holder ! m) t && eqb (f.mutex_attribute ! m) ceilinged) (up_to mutexes)))

-- "Worked out afresh, a task's current priority is the most urgent among the base priorities and held ceilings of the
-- task itself and of every task linked to it."
unfoldable pub effective : Facts → ℕ → ℕ
effective f t =
    most_urgent (own_priority f t) (map (own_priority f) (select (λ x. linked (holder_awaited f) x t) (up_to tasks)))

-- every task's, by number
unfoldable pub effectives : Facts → List ℕ
effectives f = 0 ∷ map (effective f) (up_to tasks)

-- what has to unfold for the definitions of this file to compute
unfoldable pub compute_priority : Unit {0}
unfolding linked holder_awaited own_priority effective effectives
compute_priority = tt
