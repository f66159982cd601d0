-- Laws of effective priorities: what they are worked out from. Assumes nothing.
use Prim.Native.Nat.{ℕ}
use mathlib.Core.Path.{◌≡◌, ap₂, fun_ext}
use mathlib.Core.List.{◌∷◌, map}
use Rattle.model.specs.Sizes.{tasks}
use Rattle.model.specs.Lists.{◌!◌, up_to, select}
use Rattle.model.specs.Facts.{Facts}
use Rattle.model.specs.Priority.{linked, most_urgent, holder_awaited, own_priority, effective, effectives}

-- Only the bases, the ceilings that are held and the holders that are awaited count.
pub effectives-agree : (f g : Facts) → ((t : ℕ) → own_priority f t ≡ own_priority g t) → ((t : ℕ) → holder_awaited f t ≡ holder_awaited g t)
    → effectives f ≡ effectives g
unfolding effectives effective
effectives-agree f g own next =
    ap₂ (λ (o n : ℕ → ℕ). 0 ∷ map (λ t. most_urgent (o t) (map o (select (λ x. linked n x t) (up_to tasks)))) (up_to tasks))
    (fun_ext own) (fun_ext next)

-- a task's own priority: its base, and the ceilings that are held
pub own-agree : (f g : Facts) (t : ℕ) → f.base ! t ≡ g.base ! t → f.mutex_attribute ≡ g.mutex_attribute → f.ceiling ≡ g.ceiling → f.holder ≡ g.holder
    → own_priority f t ≡ own_priority g t
unfolding own_priority
own-agree f g t base attribute ceiling holder = rw (base, attribute, ceiling, holder)
