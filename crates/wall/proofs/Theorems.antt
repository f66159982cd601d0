-- The wall shows the objects that exist, and no others. Assumes nothing.
use Rattle.model.proofs.Terms.{ℕ, zero, suc, ◌+◌, ◌≤◌, ◌<◌, arith, ◌≡◌, ◌∙◌, refl, sym, ap, ap₂, Bool, true, false, ◌||◌, cond, List, [], ◌++◌, map, length, length-replicate, count_from, keep, select, any, joined, ltb, le-ltb, Each, tasks, mutexes, buffers, pools, kernel, lent, is_valid, Areas, Went, lent_record}
use lib.ListN.{replicate}
use Rattle.model.specs.declared.call.Progress.{Progress}
use Rattle.model.specs.declared.call.Progress.TheVariants.{Answered, Over, NoArea}
use Rattle.preservation.specs.Statements.{ValidAreas}
use Rattle.preservation.proofs.Theorems.{lent-records-keep-valid}
use Rattle.history.specs.RecordByRecord.{RanLent, and_then, records_from}
use Rattle.text.specs.Names.{ascii}
use Rattle.status.specs.Rows.{is_there, task_row, mutex_row, buffer_row, pool_row}
use Rattle.status.specs.Blank.{NoneBlank, blank_task, blank_mutex, blank_buffer, blank_pool}
use Rattle.status.proofs.Sound.{asked-valid}
use Rattle.status.proofs.Blanks.{valid-has-none-blank}
use Rattle.board.specs.Table.{written, board_of}
use Rattle.board.specs.Boards.{task_board, mutex_board, buffer_board, pool_board}
use Rattle.board_text.specs.Column.{header}
use Rattle.board_text.specs.Table.{Table, row_line, row_lines, table_text}
use Rattle.board_text.specs.Tables.{task_table, mutex_table, buffer_table, pool_table}
use Rattle.board_text.specs.Wall.{tables_text, wall_text}
use Rattle.board_text.proofs.Rows.{not-blank}
use Rattle.wall.specs.Walled.{end_of, board_text}
use Rattle.wall.specs.Statements.{objects_text, text_of_objects, ValidShowsObjects, WallShowsObjects}

-- ---- one table, over any kind of row

module _ {R : Type 0} (t : Table R) (exists : ℕ → Bool) (row_of : ℕ → R) (blank : R) (unseen : t.shown blank ≡ false) where
  -- the rows of n objects from i on, in a table that was lent blank
  abbrev rows : ℕ → ℕ → List R
  rows i n = written exists row_of i n (replicate n blank)

  -- the rows that objects have are shown
  abbrev Seen : ℕ → ℕ → Type 0
  Seen i n = (j : ℕ) → i ≤ j → j < i + n → t.shown (row_of j) ≡ true

  -- such a row is shown exactly if the object exists
  shown-exists : (i : ℕ) → t.shown (row_of i) ≡ true → (b : Bool) → t.shown (cond b (row_of i) blank) ≡ b
  shown-exists i s true = s
  shown-exists i s false = unseen

  later : (i n : ℕ) → Seen i (suc n) → Seen (suc i) n
  later i n s j l h = s j (omega arith) (omega arith)

  any-shown : (i n : ℕ) → Seen i n → any t.shown (rows i n) ≡ any exists (count_from i n)
  any-shown i zero s = refl
  any-shown i (suc n) s = ap₂ ◌||◌ (shown-exists i (s i (omega arith) (omega arith)) (exists i)) (any-shown (suc i) n (later i n s))

  line_of : (i : ℕ) (rest : List ℕ) → t.shown (row_of i) ≡ true → (b : Bool)
      → cond (t.shown (cond b (row_of i) blank)) (row_line t i (cond b (row_of i) blank)) [] ++ rest ≡ cond b (row_line t i (row_of i)) [] ++ rest
  line_of i rest s true = rw s
  line_of i rest s false = rw unseen

  kept : (i : ℕ) (ns : List ℕ) (b : Bool)
      → cond b (row_line t i (row_of i)) [] ++ joined (map (λ n. row_line t n (row_of n)) ns) ≡ joined (map (λ n. row_line t n (row_of n)) (keep b i ns))
  kept i ns true = refl
  kept i ns false = refl

  lines_of : (i n : ℕ) → Seen i n → row_lines t i (rows i n) ≡ joined (map (λ j. row_line t j (row_of j)) (select exists (count_from i n)))
  lines_of i zero s = refl
  lines_of i (suc n) s =
      line_of i (row_lines t (suc i) (rows (suc i) n)) (s i (omega arith) (omega arith)) (exists i)
      ∙ ap (λ (l : List ℕ). cond (exists i) (row_line t i (row_of i)) [] ++ l) (lines_of (suc i) n (later i n s))
      ∙ kept i (select exists (count_from (suc i) n)) (exists i)

  table_of : (n : ℕ) {valid : Bool} → valid ≡ true → Each n (λ j. t.shown (row_of j) ≡ true)
      → table_text t (board_of valid n exists row_of (replicate n blank)).rows ≡ objects_text t n exists row_of
  unfolding table_text board_of objects_text
  table_of n v each =
      let s : Seen 1 n = λ j l h. each j l (omega arith) in
      let few : ltb (length (replicate n blank)) n ≡ false = le-ltb (length (replicate n blank)) n (omega (arith, length-replicate n blank)) in
      rw (v, few) (ap₂ (λ (b : Bool) (l : List ℕ). cond b (header t.columns ++ l) (ascii t.nothing)) (any-shown 1 n s) (lines_of 1 n s))

-- ---- the four tables

module _ (w store outbox : List ℕ) (v : is_valid w store outbox ≡ true) where
  none-blank : NoneBlank (lent w store outbox)
  none-blank = valid-has-none-blank (lent w store outbox) (asked-valid w store outbox v)

  tasks-of : table_text task_table (task_board w store outbox (replicate tasks blank_task)).rows
      ≡ objects_text task_table tasks (is_there (kernel w).tasks.place) (task_row (kernel w))
  unfolding task_table task_board
  tasks-of = table_of task_table _ _ blank_task refl tasks v (λ n a b. not-blank (none-blank.task n a b))

  mutexes-of : table_text mutex_table (mutex_board w store outbox (replicate mutexes blank_mutex)).rows
      ≡ objects_text mutex_table mutexes (is_there (kernel w).mutexes.exists) (mutex_row (kernel w))
  unfolding mutex_table mutex_board
  mutexes-of = table_of mutex_table _ _ blank_mutex refl mutexes v (λ n a b. not-blank (none-blank.mutex n a b))

  buffers-of : table_text buffer_table (buffer_board w store outbox (replicate buffers blank_buffer)).rows
      ≡ objects_text buffer_table buffers (is_there (kernel w).buffers.exists) (buffer_row (lent w store outbox))
  unfolding buffer_table buffer_board
  buffers-of = table_of buffer_table _ _ blank_buffer refl buffers v (λ n a b. not-blank (none-blank.buffer n a b))

  pools-of : table_text pool_table (pool_board w store outbox (replicate pools blank_pool)).rows
      ≡ objects_text pool_table pools (is_there (kernel w).pools.exists) (pool_row (kernel w))
  unfolding pool_table pool_board
  pools-of = table_of pool_table _ _ blank_pool refl pools v (λ n a b. not-blank (none-blank.pool n a b))

pub valid-shows-objects : ValidShowsObjects
unfolding board_text wall_text tables_text text_of_objects
valid-shows-objects script place w store outbox v =
    rw (tasks-of w store outbox v, mutexes-of w store outbox v, buffers-of w store outbox v, pools-of w store outbox v)

-- ---- all turns keep what is lent valid

then-valid : (w : Went) (rest : Areas → ℕ → RanLent) → ValidAreas w.areas → ((b : Areas) (i : ℕ) → ValidAreas b → ValidAreas (rest b i).areas) → (p : Progress)
    → w.progress ≡ p
    → ValidAreas (and_then w rest).areas
then-valid w rest h more (Answered answer next) e = rw e (more w.areas next.at h)
then-valid w rest h more Over e = rw e h
then-valid w rest h more NoArea e = rw e h

records-keep-valid : (n : ℕ) (a : Areas) (script : List ℕ) (at : ℕ) → ValidAreas a → ValidAreas (records_from n a script at).areas
records-keep-valid zero a script at v = v
records-keep-valid (suc n) a script at v =
    then-valid (lent_record a script at) (λ b i. records_from n b script i) (lent-records-keep-valid a script at v) (λ b i. records-keep-valid n b script i)
    (lent_record a script at).progress
    refl

pub wall-shows-objects : WallShowsObjects
wall-shows-objects a script b text n v s =
    let same = s.areas.areas in
    let still : ValidAreas b = rw same (records-keep-valid s.areas.turns a script 0 v) in
    rw (sym (valid-shows-objects script (end_of a script) b.words b.store b.outbox still)) s.front
