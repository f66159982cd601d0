-- The item of a log that `model` gives only as a part of another.
use Rattle.std.specs.Prelude.{ℕ, ℤ}
use Rattle.model.specs.World.{Ended, Nothing}

-- "83 + task (1) + code (4)": an ended wait, before what it delivers
abbrev pub ended_with : ℕ → ℤ → Ended
ended_with task code = record { task = task; code = code; delivery = Nothing }
