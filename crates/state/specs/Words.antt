-- The state as words: what a setter ensures of them. `model` says which kernel they hold.
use Rattle.std.specs.Prelude.{ℕ, ◌≡◌, List, length, set}
use Rattle.model.specs.Kernel.{Kernel, with_arrivals}
use Rattle.model.specs.Words.{word_count, kernel}

-- an entry of the arrival order exchanged
abbrev pub with_arrival : Kernel → ℕ → ℕ → Kernel
with_arrival k i v = with_arrivals k (set k.arrivals i v)

-- The words represent the kernel: they are as many as a state has, and the kernel is read off them. What a setter ensures.
pub record Represents (w : List ℕ) (k : Kernel) : Type 0 where
  pub length : length w ≡ word_count
  pub kernel : kernel w ≡ k
