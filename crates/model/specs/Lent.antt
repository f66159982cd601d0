-- The public call: on whatever is lent to it. Words, store, outbox and the area for the log may have any length and hold anything.
use Rattle.std.specs.Prelude.{ℕ, Bool, ◌&&◌, cond, List, [], length, eqb, leb, ltb}
use Rattle.std.proofs.Math.Option.{Option, none, some}
use Rattle.model.specs.declared.call.Call.{Call}
use Rattle.model.specs.declared.call.Answer.{Answer}
use Rattle.model.specs.declared.call.Answer.TheVariants.{Code}
use Rattle.std.specs.Prelude.{Ok, Err}
use Rattle.model.specs.declared.call.Progress.{Progress}
use Rattle.model.specs.declared.call.Progress.TheVariants.{Answered, Over, NoArea}
use Rattle.model.specs.Sizes.{log_bytes, script_bytes}
use Rattle.model.specs.Code.{E_SYS}
use Rattle.model.specs.World.{Lent, running}
use Rattle.model.specs.Message.{overwritten}
use Rattle.model.specs.Valid.{valid}
use Rattle.model.specs.Words.{word_count, kernel, words}
use Rattle.model.specs.Step.{Outcome, refused, valid_step}
use Rattle.model.specs.Record.{read_record, record_message}
use Rattle.model.specs.Log.{outcome_log, stop_bytes, too_long_bytes}

-- what the definitions make of lent words and areas
abbrev pub lent : List ℕ → List ℕ → List ℕ → Lent
lent w store outbox = record { kernel = kernel w; store = store; outbox = outbox }

-- 01, "Sound", with what 02 adds to it: whether what is lent is valid. The areas' lengths are a clause of `valid`; words that are more or fewer than a state's are
-- no state.
unfoldable pub is_valid : List ℕ → List ℕ → List ℕ → Bool
is_valid w store outbox = eqb (length w) word_count && valid (lent w store outbox)

-- What is lent to a call.
pub record Areas : Type 0 where
  -- the words of the state
  pub words : List ℕ
  pub store : List ℕ
  pub outbox : List ℕ
  -- the area for the log of one record
  pub log : List ℕ

-- What a call leaves: its answer, how many bytes of log it has written, and every area.
pub record Returned : Type 0 where
  pub answer : Answer
  pub written : ℕ
  pub areas : Areas

-- "Each record's log [..] goes to the front of a lent area of 512 and leaves the rest as it came"
unfoldable pub with_log : Areas → List ℕ → Areas
with_log a log = record { words = a.words; store = a.store; outbox = a.outbox; log = overwritten a.log 0 log }

-- "with an area of another length nothing is done or written and the answer is -5"
unfoldable pub untouched : Areas → Returned
untouched a = record { answer = Code E_SYS; written = 0; areas = a }

-- "Order 1 below logs 80 FB FF FF FF 8F 00": everything else is as it came
unfoldable pub not_valid : Areas → Returned
not_valid a =
    let log = outcome_log 0 (refused (lent a.words a.store a.outbox) E_SYS 0) in
    record { answer = Code E_SYS; written = length log; areas = with_log a log }

-- an outcome's answer and log, the words of its kernel, and its areas
unfoldable pub returned : Areas → Outcome → Returned
returned a o =
    let log = outcome_log (running (kernel a.words)) o in
    record {
      answer = o.answer;
      written = length log;
      areas = with_log (record { words = words o.lent.kernel; store = o.lent.store; outbox = o.lent.outbox; log = a.log }) log;
    }

-- The step on lent words, which is the public call's promise: any areas, any call, any message bytes.
unfoldable pub lent_step : Areas → Call → List ℕ → Returned
lent_step a c bytes =
    cond (eqb (length a.log) log_bytes)
    (cond (is_valid a.words a.store a.outbox)
    (returned a (valid_step (lent a.words a.store a.outbox) c bytes))
    (not_valid a))
    (untouched a)

-- ---- the same for a record of a script

-- What comes of a script at a place: how it goes on, how many bytes of log were written, and every area.
pub record Went : Type 0 where
  pub progress : Progress
  pub written : ℕ
  pub areas : Areas

-- the script is over, with these bytes of log
unfoldable pub script_over : Areas → List ℕ → Went
script_over a log = record { progress = Over; written = length log; areas = with_log a log }

-- a record's call was answered, and the next record stands there
unfoldable pub went : Returned → ℕ → Went
went r next = record { progress = Answered r.answer (record { at = next }); written = r.written; areas = r.areas }

-- "A record is read or the script stops there": an area of another length than a log's is noticed first; then a script that is too long;
-- at its end a script logs nothing more
unfoldable pub lent_record : Areas → List ℕ → ℕ → Went
lent_record a script at =
    cond (eqb (length a.log) log_bytes)
    (cond (ltb script_bytes (length script)) (script_over a too_long_bytes)
    (cond (leb (length script) at) (script_over a [])
    (elim (read_record script at) [
      | Err stop ↦ script_over a (stop_bytes stop.offset)
      | Ok r ↦ went (lent_step a r.call (record_message script at)) r.next.at
    ])))
    (record { progress = NoArea; written = 0; areas = a })

-- the answer that 01 gives in each case: none where a script is over
abbrev pub progress_answer : Progress → Option Answer
progress_answer (Answered a next) = some a
progress_answer Over = none
progress_answer NoArea = some (Code E_SYS)

-- what has to unfold for the definitions of this file to compute
unfoldable pub compute_lent : Unit {0}
unfolding is_valid with_log untouched not_valid returned lent_step script_over went lent_record
compute_lent = tt
