-- What reading a part of a line leaves: what is read, in an area, and where the line goes on or what is wrong with it.
use Rattle.std.specs.Prelude.{ℕ, List, Result}
use Rattle.assemble.specs.declared.reason.Reason.{Reason}

-- the next place, or what is wrong
abbrev pub Step : Type 0
Step = Result ℕ Reason

pub record Read (A : Type 0) : Type 0 where
  pub area : List A
  pub step : Step

abbrev pub read : {A : Type 0} → List A → Step → Read A
read area step = record { area = area; step = step }
