-- A mutex struck out, as a deletion leaves the kernel before the waits for it end.
use Rattle.std.specs.Prelude.{ℕ}
use Rattle.model.specs.Kernel.{Kernel, with_mutex_exists, with_mutex_attribute, with_ceiling, with_holder}
use Rattle.model.specs.World.{recompute}

-- "a holder loses the mutex", and priorities are settled
abbrev pub struck_out : Kernel → ℕ → Kernel
struck_out k m = recompute (with_holder (with_ceiling (with_mutex_attribute (with_mutex_exists k m 0) m 0) m 0) m 0)
