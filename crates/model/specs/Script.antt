-- 01, "The script and the log": a run of records, and a script.
use Rattle.std.specs.Prelude.{ℕ, zero, suc, true, false, List, [], ◌++◌, length, leb, ltb}
use Rattle.std.specs.Prelude.{Ok, Err}
use Rattle.model.specs.Sizes.{script_bytes}
use Rattle.model.specs.World.{Lent, running}
use Rattle.model.specs.Step.{fresh_lent, step}
use Rattle.model.specs.Record.{read_record, record_message}
use Rattle.model.specs.Log.{outcome_log, stop_bytes, too_long_bytes}
use Rattle.model.specs.Compute.{compute}

-- What a run leaves: its log, and the state and areas.
pub record Ran : Type 0 where
  pub log : List ℕ
  pub lent : Lent

abbrev pub ran : List ℕ → Lent → Ran
ran log x = record { log = log; lent = x }

-- one outcome's log before a run's
abbrev pub log_then : List ℕ → Ran → Ran
log_then log r = ran (log ++ r.log) r.lent

-- at most n records, from a place of a script on; where the script stops, "earlier records have run"
abbrev pub run_from : ℕ → Lent → List ℕ → ℕ → Ran
run_from zero x script at = ran [] x
run_from (suc n) x script at =
    elim (leb (length script) at) [
      | true ↦ ran [] x
      | false ↦
          elim (read_record script at) [
            | Err stop ↦ ran (stop_bytes stop.offset) x
            | Ok r ↦
                let o = step x r.call (record_message script at) in
                log_then (outcome_log (running x.kernel) o) (run_from n o.lent script r.next.at)
          ]
    ]

-- a run of records from any lent state, of any length: no script has more records than bytes
unfoldable pub run : Lent → List ℕ → Ran
run x script = run_from (length script) x script 0

-- "A script above 16,384 bytes logs 8D alone. An empty one logs nothing."
unfoldable pub run_script : Lent → List ℕ → Ran
run_script x script = elim (ltb script_bytes (length script)) [ true ↦ ran too_long_bytes x | false ↦ run x script ]

-- from the fresh state
unfoldable pub script_log : List ℕ → List ℕ
unfolding run run_script compute
script_log script = (run_script fresh_lent script).log
