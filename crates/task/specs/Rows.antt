-- What a task has that has no wait: where it stands, and its three priorities.
use Rattle.std.specs.Prelude.{ℕ}
use Rattle.model.specs.Kernel.{Kernel, with_place, with_initial, with_base, with_current}

abbrev pub task_row : Kernel → ℕ → ℕ → ℕ → Kernel
task_row k t place p = with_current (with_base (with_initial (with_place k t place) t p) t p) t p
