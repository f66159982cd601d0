-- The first sender of a buffer, and the senders of a buffer one after the other.
use Rattle.std.specs.Prelude.{ℕ, ◌≡◌, true}
use Rattle.model.specs.Sizes.{tasks}
use Rattle.model.specs.Facts.{queue, sending}
use Rattle.model.specs.Kernel.{Kernel}
use Rattle.model.specs.World.{World, queue_front}
use Rattle.model.specs.Act.{serve, first_fits, store_first}

-- The task is the first sender at the buffer, and its message fits.
pub record FirstSender (k : Kernel) (b t : ℕ) : Type 0 where
  pub fits : first_fits k b ≡ true
  pub first : t ≡ queue_front k (queue sending b)

-- "while the first sender's message fits, it is stored and that wait ends with 0": what a drain does at a buffer
abbrev pub served : ℕ → World → World
served b w = serve tasks (λ u. first_fits u.kernel b) (λ u. store_first u b) w
