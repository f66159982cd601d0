-- Entries of a field, wherever it stands among the words.
use Rattle.std.specs.Prelude.{ℕ, ◌+◌, cond, List, ltb, set}
use Rattle.model.specs.Lists.{◌!◌}

-- an entry of a field that has so many slots from an offset on: outside them a read gives 0 and a store does nothing
abbrev pub entry : List ℕ → ℕ → ℕ → ℕ → ℕ
entry w at slots i = cond (ltb i slots) (w ! (at + i)) 0

abbrev pub with_entry : List ℕ → ℕ → ℕ → ℕ → ℕ → List ℕ
with_entry w at slots i v = cond (ltb i slots) (set w (at + i) v) w
