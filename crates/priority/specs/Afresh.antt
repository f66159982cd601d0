-- The parts of all current priorities worked out afresh. Assumes nothing.
use Rattle.std.specs.Prelude.{ℕ, cond, List, ◌∷◌, map}
use Rattle.model.specs.Sizes.{tasks}
use Rattle.model.specs.Lists.{◌!◌, up_to, within}
use Rattle.model.specs.Priority.{effectives}
use Rattle.model.specs.Kernel.{Kernel, facts, with_current, with_currents}
use Rattle.priority.specs.Own.{own_of, base_of, ceiling_holder}
use Rattle.priority.specs.Walk.{awaited, raised_kernel}

-- a list by number, from what each task has
unfoldable pub by_task : (ℕ → ℕ) → List ℕ
by_task f = 0 ∷ map f (up_to tasks)

-- every current priority is the task's base priority
unfoldable pub at_bases : Kernel → Kernel
at_bases k = with_currents k (by_task (base_of k))

-- or its own
unfoldable pub at_own : Kernel → Kernel
at_own k = with_currents k (by_task (own_of k))

-- that of the holder of one mutex is its own, if the mutex's ceiling counts
unfoldable pub holder_at_own : Kernel → ℕ → Kernel
holder_at_own k m = let h = ceiling_holder k m in cond (within 1 tasks h) (with_current k h (own_of k h)) k

-- a task has passed its current priority on
unfoldable pub passed_on : Kernel → ℕ → Kernel
passed_on k t = raised_kernel k (awaited k t) (k.tasks.current ! t)

-- every current priority is the effective one: `recompute` but for the bits
unfoldable pub worked_out : Kernel → Kernel
worked_out k = with_currents k (effectives (facts k))
