-- What the wall shows of a valid state: the objects that exist, and no others. What is to be proved, each as a type; `Theorems` proves them.
use Rattle.std.specs.Prelude.{ℕ, ◌≡◌, Bool, true, cond, List, ◌++◌, map}
use Rattle.model.specs.Sizes.{tasks, mutexes, buffers, pools}
use Rattle.model.specs.Lists.{up_to, select, any, joined}
use Rattle.model.specs.Words.{kernel}
use Rattle.model.specs.Lent.{Areas, lent, is_valid}
use Rattle.preservation.specs.Statements.{ValidAreas}
use Rattle.text.specs.Names.{ascii}
use Rattle.text.specs.Line.{IsFront}
use Rattle.text.specs.Place.{place_line}
use Rattle.status.specs.Rows.{is_there, task_row, mutex_row, buffer_row, pool_row}
use Rattle.board_text.specs.Column.{header}
use Rattle.board_text.specs.Table.{Table, row_line}
use Rattle.board_text.specs.Tables.{task_table, mutex_table, buffer_table, pool_table}
use Rattle.wall.specs.Walled.{end_of, board_text, ShowsBoard}

-- a table of the objects that exist, by their numbers
unfoldable pub objects_text : {R : Type 0} → Table R → ℕ → (ℕ → Bool) → (ℕ → R) → List ℕ
objects_text t objects exists row_of =
    cond (any exists (up_to objects)) (header t.columns ++ joined (map (λ n. row_line t n (row_of n)) (select exists (up_to objects)))) (ascii t.nothing)

-- the whole text of a place and of the objects of what is lent
unfoldable pub text_of_objects : List ℕ → ℕ → List ℕ → List ℕ → List ℕ → List ℕ
text_of_objects script place w store outbox =
    let k = kernel w in
    place_line script place
    ++ (ascii "\n"
    ++ (objects_text task_table tasks (is_there k.tasks.place) (task_row k) ++ ascii "\n" ++ objects_text mutex_table mutexes (is_there k.mutexes.exists) (mutex_row k)
    ++ ascii "\n"
    ++ objects_text buffer_table buffers (is_there k.buffers.exists) (buffer_row (lent w store outbox))
    ++ ascii "\n"
    ++ objects_text pool_table pools (is_there k.pools.exists) (pool_row k)))

abbrev pub ValidShowsObjects : Type 0
ValidShowsObjects =
    (script : List ℕ) (place : ℕ) (w store outbox : List ℕ) → is_valid w store outbox ≡ true
    → board_text script place w store outbox ≡ text_of_objects script place w store outbox

-- From a valid state, as the fresh one is, whatever the script: what the program hands over is the text of the objects that exist at its end.
abbrev pub WallShowsObjects : Type 0
WallShowsObjects =
    (a : Areas) (script : List ℕ) (b : Areas) (text : List ℕ) (n : ℕ) → ValidAreas a → ShowsBoard a script b text n
    → IsFront text n (text_of_objects script (end_of a script) b.words b.store b.outbox)
