-- The text of a whole script: at each place its line, and behind a record's line those of its log.
use Rattle.std.specs.Prelude.{ℕ, zero, suc, true, false, ◌≡◌, List, [], ◌++◌, map, length, ltb, Ok, Err}
use Rattle.model.specs.Sizes.{script_bytes}
use Rattle.model.specs.Lists.{joined}
use Rattle.model.specs.World.{Lent, running, Delivery, Nothing, Message, Block, Ended}
use Rattle.model.specs.Step.{Outcome, fresh_lent, step}
use Rattle.model.specs.Record.{read_record, record_message}
use Rattle.model.specs.Log.{answer_bytes, delivery_bytes, ended_bytes, runs_bytes, outcome_log}
use Rattle.model.specs.Compute.{compute}
use Rattle.script.specs.Item.{ended_with}
use Rattle.text.specs.Numbers.{compute_numbers}
use Rattle.text.specs.Quoted.{compute_quoted}
use Rattle.text.specs.Place.{place_line, compute_place}
use Rattle.text.specs.Item.{item_line, compute_item}
use Rattle.text.specs.Turn.{log_text, compute_turn}

-- The lines of an outcome: the answer, what was delivered, each ended wait, and who runs.
unfoldable pub delivery_line : ℕ → Delivery → List ℕ
delivery_line t Nothing = []
delivery_line t (Message m) = item_line (delivery_bytes t (Message m))
delivery_line t (Block b) = item_line (delivery_bytes t (Block b))

unfoldable pub ended_lines : Ended → List ℕ
ended_lines e = item_line (ended_bytes (ended_with e.task e.code)) ++ delivery_line e.task e.delivery

unfoldable pub outcome_text : ℕ → Outcome → List ℕ
outcome_text caller o =
    item_line (answer_bytes o.answer) ++ (delivery_line caller o.delivery ++ (joined (map ended_lines o.ended) ++ item_line (runs_bytes o.runs)))

-- Cut into items by their tags, an outcome's log is just its items.
abbrev pub LogIsItsItems : Type 0
LogIsItsItems = (caller : ℕ) (o : Outcome) → log_text (outcome_log caller o) ≡ outcome_text caller o

-- at most n records, from a place on, as `run_from` of `model` runs them
abbrev pub text_from : ℕ → Lent → List ℕ → ℕ → List ℕ
text_from zero x script at = []
text_from (suc n) x script at =
    elim (read_record script at) [
      | Err stop ↦ place_line script at
      | Ok r ↦
          let o = step x r.call (record_message script at) in
          place_line script at ++ log_text (outcome_log (running x.kernel) o) ++ text_from n o.lent script r.next.at
    ]

-- from the fresh state; the last line is the end's or the stop's, or says that the script is too long, and is the only one then
unfoldable pub script_text : List ℕ → List ℕ
unfolding compute
script_text script =
    elim (ltb script_bytes (length script)) [ true ↦ place_line script 0 | false ↦ text_from (suc (length script)) fresh_lent script 0 ]

-- what has to unfold for the definitions of this file to compute
unfoldable pub compute_whole : Unit {0}
unfolding compute compute_numbers compute_quoted compute_place compute_item compute_turn script_text
compute_whole = tt
