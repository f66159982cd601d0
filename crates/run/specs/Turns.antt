-- A turn of a program that runs a script and writes of each record what it has to, and all of its turns: what they leave. No contract can say what is written; what is handed over to be
-- written can be read in the code.
use Rattle.std.specs.Prelude.{ℕ, ◌<◌, ◌≡◌, ◌≢◌, Bool, true, cond, List, length, Option, Some, None, Result, Ok, Err}
use Rattle.model.specs.declared.call.Cursor.{Cursor}
use Rattle.model.specs.declared.call.Progress.{Progress}
use Rattle.model.specs.declared.call.Progress.TheVariants as progress
use Rattle.model.specs.Sizes.{script_bytes, log_bytes}
use Rattle.model.specs.Words.{word_count, words}
use Rattle.model.specs.Script.{run_script}
use Rattle.model.specs.Lent.{Areas, lent_record}
use Rattle.history.specs.LentHistory.{lent_in}
use Rattle.history.specs.RecordByRecord.{records_from}
use Rattle.run.specs.declared.turn.Unwritten.{Unwritten}

-- how the program goes on: at a record, not at all, since the script is over, or not at all, since something could not be written
abbrev pub Turn : Type 0
Turn = Result (Option Cursor) Unwritten

abbrev pub goes_to : Cursor → Turn
goes_to next = Ok (Some next)

abbrev pub is_done : Turn
is_done = Ok None

abbrev pub not_written : Turn
not_written = Err (record {})

-- where all was written
abbrev pub turn_of : Progress → Turn
turn_of (progress.Answered answer next) = goes_to next
turn_of progress.Over = is_done
turn_of progress.NoArea = is_done

abbrev pub turn_if : Bool → Progress → Turn
turn_if written p = cond written (turn_of p) not_written

-- The areas are those of the record; and so is how it goes on, unless the answer is that something could not be written. Nothing promises that a write succeeds, so nothing says when
-- that is the answer.
pub record Turned (a : Areas) (script : List ℕ) (at : ℕ) (b : Areas) (r : Turn) : Type 0 where
  pub areas : b ≡ (lent_record a script at).areas
  pub goes_on : r ≢ not_written → r ≡ turn_of (lent_record a script at).progress

-- All turns: the areas are those of some records, from the first one on; of more than a script has bytes, where all was written.
pub record RunsAll (a : Areas) (script : List ℕ) (b : Areas) (written : Bool) : Type 0 where
  pub turns : ℕ
  pub areas : b ≡ (records_from turns a script 0).areas
  pub whole : written ≡ true → script_bytes < turns

-- So they are those of the whole script, as document 01 has it, where all was written: words of a state and any areas, valid or not, and any script.
abbrev pub AllIsScript : Type 0
AllIsScript =
    (a : Areas) (script : List ℕ) (b : Areas) → length a.words ≡ word_count → length a.log ≡ log_bytes → RunsAll a script b true
    → let s = (run_script (lent_in a) script).lent in
    (b.words ≡ words s.kernel) × ((b.store ≡ s.store) × (b.outbox ≡ s.outbox))
