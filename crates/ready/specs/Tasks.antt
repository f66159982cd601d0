-- One task's part of the bits.
use Rattle.std.specs.Prelude.{ℕ, Bool, true, ◌&&◌, cond, eqb}
use Rattle.model.specs.Lists.{◌!◌}
use Rattle.model.specs.Facts.{ready}
use Rattle.model.specs.Queue.{with_priority}
use Rattle.model.specs.Kernel.{Kernel, facts}

-- whether the task of a number is ready
unfoldable pub is_ready : Kernel → ℕ → Bool
is_ready k t = eqb ((facts k).place ! t) ready

-- its number then, else 0
unfoldable pub ready_task : Kernel → ℕ → ℕ
ready_task k t = cond (is_ready k t) t 0

-- whether it is so at a priority
unfoldable pub is_ready_at : Kernel → ℕ → ℕ → Bool
is_ready_at k p t = is_ready k t && eqb (k.tasks.current ! t) p

-- a word with the bit that the task of a number sets
unfoldable pub with_task : Kernel → ℕ → ℕ → ℕ
with_task k word t = cond (is_ready k t) (with_priority word (k.tasks.current ! t) true) word
