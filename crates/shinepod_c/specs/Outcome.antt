-- What C is told: for each answer a number, and a code beside it.
use Rattle.std.specs.Prelude.{ℕ, List, ℤ}
use Rattle.std.proofs.Math.Option.{none, some}
use Rattle.model.specs.declared.call.Answer.{Answer}
use Rattle.model.specs.declared.call.Answer.TheVariants.{Code, Waits, Exits}
use Rattle.model.specs.declared.call.Progress.{Progress}
use Rattle.model.specs.declared.call.Progress.TheVariants.{Answered, Over, NoArea}
use Rattle.model.specs.Code.{E_OK, E_SYS}
use Rattle.model.specs.Record.{row_of}
use Rattle.model.specs.Lent.{Areas, Returned, lent_step, lent_record}
use Rattle.script.specs.Body.{field_at}

-- the number of an answer, and its code; "the caller waits" and "a good ext_tsk" have none, which is 0
abbrev pub outcome_of : Answer → ℕ
outcome_of (Code c) = 0
outcome_of Waits = 1
outcome_of Exits = 2

abbrev pub code_of : Answer → ℤ
code_of (Code c) = c
code_of Waits = E_OK
code_of Exits = E_OK

-- what no answer is: no call has the kind; the script is over
abbrev pub unknown_kind : ℕ
unknown_kind = 3

abbrev pub is_over : ℕ
is_over = 4

-- What a call comes to: all that it gives and leaves.
pub record Came : Type 0 where
  pub outcome : ℕ
  pub code : ℤ
  pub written : ℕ
  pub areas : Areas

abbrev pub came : ℕ → ℤ → ℕ → Areas → Came
came outcome code written areas = record { outcome = outcome; code = code; written = written; areas = areas }

unfoldable pub answered : Returned → Came
answered r = came (outcome_of r.answer) (code_of r.answer) r.written r.areas

-- a call by its kind and fields, on whatever is lent: where no call has the kind, nothing is done
unfoldable pub call_outcome : Areas → ℕ → List ℤ → List ℕ → Came
call_outcome a kind fields bytes =
    elim (row_of kind) [ none ↦ came unknown_kind E_OK 0 a | some r ↦ answered (lent_step a (r.call (field_at fields)) bytes) ]

-- ---- the same for a record of a script

-- "with an area of another length nothing is done or written and the answer is -5"
abbrev pub progress_outcome : Progress → ℕ
progress_outcome (Answered a next) = outcome_of a
progress_outcome Over = is_over
progress_outcome NoArea = outcome_of (Code E_SYS)

abbrev pub progress_code : Progress → ℤ
progress_code (Answered a next) = code_of a
progress_code Over = E_OK
progress_code NoArea = code_of (Code E_SYS)

-- the place of the next record; where none was read, the same place
abbrev pub progress_next : Progress → ℕ → ℕ
progress_next (Answered a next) at = next.at
progress_next Over at = at
progress_next NoArea at = at

pub record CameTo : Type 0 where
  pub outcome : ℕ
  pub code : ℤ
  pub written : ℕ
  pub at : ℕ
  pub areas : Areas

abbrev pub came_to : ℕ → ℤ → ℕ → ℕ → Areas → CameTo
came_to outcome code written at areas = record { outcome = outcome; code = code; written = written; at = at; areas = areas }

unfoldable pub record_outcome : Areas → List ℕ → ℕ → CameTo
record_outcome a script at =
    let w = lent_record a script at in
    came_to (progress_outcome w.progress) (progress_code w.progress) w.written (progress_next w.progress at) w.areas
