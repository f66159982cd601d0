-- 01, "Send": "Stored oldest first, packed: length (4 bytes), bytes, zeros." What is asked of the oldest message of a region.
use Rattle.std.specs.Prelude.{ℕ, ◌+◌, Bool, ◌&&◌, List, take, drop, leb}
use Rattle.model.specs.Lists.{all_zero, within}
use Rattle.model.specs.Message.{cost, oldest_length}

-- where so many bytes are used
unfoldable pub oldest_laid_out : ℕ → ℕ → List ℕ → Bool
oldest_laid_out maxmsz used r =
    let l = oldest_length r in
    within 1 maxmsz l && leb (cost l) used && all_zero (drop (4 + l) (take (cost l) r))
