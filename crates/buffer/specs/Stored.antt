-- What a receive asks of the store.
use Rattle.std.specs.Prelude.{ℕ, ◌≤◌, List}
use Rattle.model.specs.Sizes.{longest}
use Rattle.model.specs.Message.{oldest_length, region}

-- "receives [answer] the length": the length of the oldest message is a number that an answer can be. On a damaged region it need not be one.
pub record Answerable (b : ℕ) (store : List ℕ) : Type 0 where
  pub short : oldest_length (region b store) ≤ longest
