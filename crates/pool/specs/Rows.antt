-- What a pool has: its entries, and the flags of its blocks; and a pool struck out, as a deletion leaves the kernel before the waits for it end.
use Rattle.std.specs.Prelude.{ℕ}
use mathlib.Core.List.{foldl}
use Rattle.model.specs.Sizes.{blocks}
use Rattle.model.specs.Lists.{up_to}
use Rattle.model.specs.Kernel.{Kernel, with_pool_exists, with_pool_attribute, with_count, with_size, with_taken, slot}

abbrev pub pool_row : Kernel → ℕ → ℕ → ℕ → ℕ → ℕ → Kernel
pool_row k p exists attribute count size = with_size (with_count (with_pool_attribute (with_pool_exists k p exists) p attribute) p count) p size

-- one block more is free
abbrev pub freed : ℕ → Kernel → ℕ → Kernel
freed p k b = with_taken k (slot p b) 0

abbrev pub all_freed : Kernel → ℕ → Kernel
all_freed k p = foldl (freed p) k (up_to blocks)

abbrev pub struck_out : Kernel → ℕ → Kernel
struck_out k p = all_freed (pool_row k p 0 0 0 0) p
