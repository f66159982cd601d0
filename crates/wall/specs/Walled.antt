-- What `wall` hands over to be written. No contract can say that it is written; that it is the front of the area for it can be read in the code.
use Rattle.std.specs.Prelude.{ℕ, zero, suc, ◌≡◌, true, List, replicate}
use Rattle.model.specs.declared.call.Progress.TheVariants.{Answered, Over, NoArea}
use Rattle.model.specs.Sizes.{tasks, mutexes, buffers, pools, script_bytes}
use Rattle.model.specs.Lent.{Areas, Went, lent_record}
use Rattle.text.specs.Line.{IsFront}
use Rattle.run.specs.Turns.{RunsAll}
use Rattle.status.specs.Blank.{blank_task, blank_mutex, blank_buffer, blank_pool}
use Rattle.board.specs.Boards.{task_board, mutex_board, buffer_board, pool_board}
use Rattle.board_text.specs.Wall.{wall_text}

-- where a script goes on after a record, or where it is over
abbrev pub and_place : Went → ℕ → (Areas → ℕ → ℕ) → ℕ
and_place w at rest = elim w.progress [ Answered answer next ↦ rest w.areas next.at | Over ↦ at | NoArea ↦ at ]

-- at most n records, from a place of a script on: the place where they end
abbrev pub place_from : ℕ → Areas → List ℕ → ℕ → ℕ
place_from zero a script at = at
place_from (suc n) a script at = and_place (lent_record a script at) at (λ b i. place_from n b script i)

-- where the whole script ends or stops: it has no more records than bytes, and the end is a place, too
unfoldable pub end_of : Areas → List ℕ → ℕ
end_of a script = place_from (suc script_bytes) a script 0

-- The areas are those of the whole script, and the place is its end.
pub record RunsToEnd (a : Areas) (script : List ℕ) (b : Areas) (place : ℕ) : Type 0 where
  pub areas : RunsAll a script b true
  pub end : place ≡ end_of a script

-- The text of a place and of the four tables that the board gives of what is lent. They are lent blank, so that what is blank afterwards is not there.
unfoldable pub board_text : List ℕ → ℕ → List ℕ → List ℕ → List ℕ → List ℕ
board_text script place w store outbox =
    wall_text script place (task_board w store outbox (replicate tasks blank_task)).rows (mutex_board w store outbox (replicate mutexes blank_mutex)).rows
    (buffer_board w store outbox (replicate buffers blank_buffer)).rows
    (pool_board w store outbox (replicate pools blank_pool)).rows

-- The promise of the program: the areas are those of the whole script, and what is handed over is the text of its end and of the tables of the state that is left.
pub record ShowsBoard (a : Areas) (script : List ℕ) (b : Areas) (text : List ℕ) (n : ℕ) : Type 0 where
  pub areas : RunsAll a script b true
  pub front : IsFront text n (board_text script (end_of a script) b.words b.store b.outbox)
