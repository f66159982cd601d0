-- What a call leaves: the one equation of the public call is with the step on lent words.
use Rattle.std.specs.Prelude.{ℕ, ◌≡◌, List, ◌++◌}
use Rattle.model.specs.declared.call.Answer.TheVariants.{Code}
use Rattle.model.specs.Code.{E_SYS}
use Rattle.model.specs.Log.{answer_bytes, runs_bytes}
use Rattle.model.specs.declared.call.Call.{Call}
use Rattle.model.specs.Lent.{Areas, Returned, lent_step}
use Rattle.script.specs.Place.{Wrote}
use Rattle.call.specs.declared.Called.{Called}

-- the answer and the bytes written, with the areas
abbrev pub called : Called → Areas → Returned
called r b = record { answer = r.answer; written = r.written; areas = b }

-- The promise of the public call: the answer, the bytes written and every area are those of the step on lent words.
abbrev pub Answers : Areas → Call → List ℕ → Areas → Called → Type 0
Answers a c bytes b r = called r b ≡ lent_step a c bytes

-- "Order 1 below logs 80 FB FF FF FF 8F 00"
pub record NotValid (log log' : List ℕ) (r : Called) : Type 0 where
  pub answer : r.answer ≡ Code E_SYS
  pub bytes : Wrote log 0 (answer_bytes (Code E_SYS) ++ runs_bytes 0) log' r.written
