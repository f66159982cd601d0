-- A task's own priority, and who holds a mutex whose ceiling counts. Assumes nothing.
use Rattle.std.specs.Prelude.{ℕ, min, Bool, ◌&&◌, cond, eqb}
use Rattle.model.specs.Lists.{◌!◌}
use Rattle.model.specs.Facts.{Facts, ceilinged}
use Rattle.model.specs.Priority.{own_priority}
use Rattle.model.specs.Kernel.{Kernel, facts}

abbrev pub own_of : Kernel → ℕ → ℕ
own_of k t = own_priority (facts k) t

abbrev pub base_of : Kernel → ℕ → ℕ
base_of k t = (facts k).base ! t

-- whether a task holds a mutex whose ceiling counts
abbrev pub holds_ceiling : Facts → ℕ → ℕ → Bool
holds_ceiling f t m = eqb (f.holder ! m) t && eqb (f.mutex_attribute ! m) ceilinged

-- the more urgent of a priority and a mutex's ceiling, if the task holds it
unfoldable pub with_ceiling_of : Kernel → ℕ → ℕ → ℕ → ℕ
with_ceiling_of k t m p = cond (holds_ceiling (facts k) t m) (min p ((facts k).ceiling ! m)) p

-- who holds a mutex whose ceiling counts, 0 for nobody
unfoldable pub ceiling_holder : Kernel → ℕ → ℕ
ceiling_holder k m = cond (eqb ((facts k).mutex_attribute ! m) ceilinged) ((facts k).holder ! m) 0
