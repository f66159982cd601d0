-- What the two walks do to the kernel. Assumes nothing.
use Rattle.std.specs.Prelude.{ℕ, zero, suc, ◌&&◌, cond, List, set, eqb, ltb}
use Rattle.model.specs.Sizes.{tasks}
use Rattle.model.specs.Lists.{◌!◌, within}
use Rattle.model.specs.Facts.{Facts, locking, inherits}
use Rattle.model.specs.Priority.{holder_awaited}
use Rattle.model.specs.Kernel.{Kernel, facts, with_currents}

-- the mutex that a task waits for, 0 for none
unfoldable pub mutex_awaited : Facts → ℕ → ℕ
mutex_awaited f t = cond (eqb (f.place ! t) locking) (f.object ! t) 0

-- what a mutex passes priorities on to: its holder, if it inherits, 0 for none
unfoldable pub passes_to : Facts → ℕ → ℕ
passes_to f m = cond (eqb (f.mutex_attribute ! m) inherits) (f.holder ! m) 0

-- from a task to the next one: the holder of the inheritance mutex that it waits for
abbrev pub awaited : Kernel → ℕ → ℕ
awaited k = holder_awaited (facts k)

-- the current priorities after a walk of n steps at most: each task in turn is raised to p, until one is as urgent already, or is none
unfoldable pub walked : (ℕ → ℕ) → ℕ → ℕ → ℕ → List ℕ → List ℕ
walked next zero v p cs = cs
walked next (suc n) v p cs = cond (within 1 tasks v && ltb p (cs ! v)) (walked next n (next v) p (set cs v p)) cs

-- the kernel after a walk from v: none raises more tasks than there are
unfoldable pub raised_kernel : Kernel → ℕ → ℕ → Kernel
raised_kernel k v p = with_currents k (walked (awaited k) (suc tasks) v p k.tasks.current)
