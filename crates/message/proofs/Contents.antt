-- What a region holds: packed messages, the oldest first, and zeros behind them; and the messages read back.
use Prim.Native.Nat.{ℕ, zero, suc, ◌-◌}
use mathlib.Core.Bool.{true, false}
use mathlib.Core.List.{List, [], ◌∷◌, ◌++◌, map}
use lib.ListN.{length, drop}
use lib.Dec.{eqb}
use Rattle.model.specs.Sizes.{region_bytes}
use Rattle.model.specs.Lists.{joined, sum, zeros}
use Rattle.model.specs.Message.{cost, packed, oldest_length, oldest}

-- the bytes that messages cost together
abbrev pub total_cost : List (List ℕ) → ℕ
total_cost ms = sum (map (λ m. cost (length m)) ms)

-- "Stored oldest first, packed [..] All other bytes are zero."
unfoldable pub region_of : List (List ℕ) → List ℕ
region_of ms = joined (map packed ms) ++ zeros (region_bytes - total_cost ms)

-- the messages of a region of which so many bytes are used, at most n of them
abbrev pub unpacked : ℕ → ℕ → List ℕ → List (List ℕ)
unpacked zero used r = []
unpacked (suc n) used r =
    elim (eqb used 0) [
      | true ↦ []
      | false ↦ oldest r ∷ unpacked n (used - cost (oldest_length r)) (drop (cost (oldest_length r)) r)
    ]
