-- What a buffer has, but for how much of its region is used.
use Rattle.std.specs.Prelude.{ℕ}
use Rattle.model.specs.Kernel.{Kernel, with_buffer_exists, with_buffer_attribute, with_bufsz, with_maxmsz}

abbrev pub buffer_row : Kernel → ℕ → ℕ → ℕ → ℕ → ℕ → Kernel
buffer_row k b exists attribute bufsz maxmsz = with_maxmsz (with_bufsz (with_buffer_attribute (with_buffer_exists k b exists) b attribute) b bufsz) b maxmsz
