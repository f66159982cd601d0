-- No line is longer than the area for it, so that all of the text fits. Assumes nothing.
use Prim.Native.Nat.{ℕ, zero, suc, ◌+◌, ◌*◌, ◌-◌, ◌≤◌, max}
use Prim.Native.String.{String}
use native.Mathlib.Omega.{arith}
use mathlib.Core.Path.{◌≡◌, ◌∙◌, sym, ap, ap₂}
use mathlib.Core.Bool.{true, false}
use mathlib.Core.List.{List, [], ◌∷◌, ◌++◌, map, append-nil}
use lib.ListN.{length, take, length-append, length-take, length-replicate}
use lib.Seq.{take-paste, take-length}
use lib.IntN.{pos, negsuc}
use Rattle.model.proofs.Terms.{eqb, any, tasks, mutexes, buffers, pools}
use Rattle.model.proofs.ListLaws.{either}
use Rattle.model.specs.Message.{over}
use Rattle.model.specs.declared.call.Progress.TheVariants.{Over}
use Rattle.status.specs.declared.row.TaskRow.{TaskRow}
use Rattle.status.specs.declared.row.MutexRow.{MutexRow}
use Rattle.status.specs.declared.row.BufferRow.{BufferRow}
use Rattle.status.specs.declared.row.PoolRow.{PoolRow}
use Rattle.script.specs.Place.{Appends, Wrote}
use Rattle.script.proofs.Appending.{wrote, wrote-more, over-paste, placed-room, next-room, length_over}
use Rattle.text.specs.Names.{ascii, named}
use Rattle.text.specs.Numbers.{decimal}
use Rattle.text.specs.Line.{line_bytes, IsFront}
use Rattle.text.specs.Place.{place_line}
use Rattle.text.specs.Turn.{turn_text, text_bytes}
use Rattle.text.proofs.Fitting.{decimal-short, signed-short, place-fits}
use Rattle.board_text.specs.declared.cell.Cell.{Cell}
use Rattle.board_text.specs.declared.cell.Cell.TheVariants.{Number, Signed, State, Awaited, Time, Task, Length}
use Rattle.board_text.specs.declared.column.Column.{Column}
use Rattle.board_text.specs.declared.column.Column.TheVariants.{Right, Left, Last}
use Rattle.board_text.specs.Cell.{states, state_name, objects, object_name, awaited_text, task_text, length_text, time_text, cell_text}
use Rattle.board_text.specs.Column.{spaces, in_column, line_of, header}
use Rattle.board_text.specs.Table.{Table, row_line, row_lines, table_text}
use Rattle.board_text.specs.Tables.{task_table, mutex_table, buffer_table, pool_table}
use Rattle.board_text.specs.Wall.{tables_text, wall_text}

-- ---- cells

abbrev longest : List (ℕ × String) → ℕ
longest [] = 0
longest (r ∷ rows) = max (length (ascii r.1)) (longest rows)

named-short : (n : ℕ) (rows : List (ℕ × String)) → length (ascii (named n rows)) ≤ longest rows
named-short n [] = omega arith
named-short n (r ∷ rows) =
    elim (eqb n r.0) as (λ b. length (ascii (elim b [ true ↦ r.1 | false ↦ named n rows ])) ≤ max (length (ascii r.1)) (longest rows))
    [ true ↦ omega arith | false ↦ omega (arith, named-short n rows) ]

pub cell-short : (c : Cell) → length (cell_text c) ≤ 32
unfolding cell_text state_name object_name awaited_text task_text length_text time_text
cell-short (Number n) = omega (arith, decimal-short n)
cell-short (Signed z) = omega (arith, signed-short z)
cell-short (State state) = omega (arith, named-short state states)
cell-short (Awaited kind object) =
    either (λ (t : List ℕ). length t ≤ 32) (eqb kind 0) (omega arith)
    (omega (arith, length-append (object_name kind) (decimal object), named-short kind objects, decimal-short object))
cell-short (Time (pos zero)) = omega arith
cell-short (Time (pos (suc n))) = omega (arith, length-append (decimal (suc n)) (ascii " ms"), decimal-short (suc n))
cell-short (Time (negsuc n)) = omega arith
cell-short (Task t) = either (λ (l : List ℕ). length l ≤ 32) (eqb t 0) (omega arith) (omega (arith, decimal-short t))
cell-short (Length n) = either (λ (l : List ℕ). length l ≤ 32) (eqb n 0) (omega arith) (omega (arith, decimal-short n))

-- ---- lines

abbrev width : Column → ℕ
width (Right n) = n
width (Left n) = n
width Last = 0

column-short : (c : Column) (cell : List ℕ) → length cell ≤ 32 → length (in_column c cell) ≤ max (width c) 32 + 2
unfolding in_column
column-short (Right n) cell h =
    let s = spaces (n - length cell) in
    omega (arith, length-append (s ++ cell) (ascii "  "), length-append s cell, length-replicate {A = ℕ} (n - length cell) 32)
column-short (Left n) cell h =
    let s = spaces (n - length cell) in
    omega (arith, length-append (cell ++ s) (ascii "  "), length-append cell s, length-replicate {A = ℕ} (n - length cell) 32)
column-short Last cell h = omega (arith, length-append cell (ascii "\n"))

-- with a cell of any length in each column
abbrev longest_line : List (Column × String) → ℕ
longest_line [] = 0
longest_line (c ∷ cs) = max (width c.0) 32 + 2 + longest_line cs

line-short : (columns : List (Column × String)) (cells : List Cell) → length (line_of columns (map cell_text cells)) ≤ longest_line columns
line-short [] cells = omega arith
line-short (c ∷ cs) [] = omega arith
line-short (c ∷ cs) (x ∷ xs) =
    omega (
      arith,
      length-append (in_column c.0 (cell_text x)) (line_of cs (map cell_text xs)),
      column-short c.0 (cell_text x) (cell-short x),
      line-short cs xs,
    )

-- ---- tables

module _ {R : Type 0} (t : Table R) (line : longest_line t.columns ≤ line_bytes) where
  rows_short : (n : ℕ) (rows : List R) → length (row_lines t n rows) ≤ length rows * line_bytes
  rows_short n [] = omega arith
  rows_short n (row ∷ rows) =
      let short : length (row_line t n row) ≤ line_bytes = omega (arith, line-short t.columns (t.cells n row)) in
      let rest = row_lines t (suc n) rows in
      either (λ (l : List ℕ). length (l ++ rest) ≤ suc (length rows) * line_bytes) (t.shown row)
      (omega (arith, length-append (row_line t n row) rest, rows_short (suc n) rows))
      (omega (arith, rows_short (suc n) rows))

  table-short : length (header t.columns) ≤ line_bytes → length (ascii t.nothing) ≤ line_bytes → (rows : List R)
      → length (table_text t rows) ≤ suc (length rows) * line_bytes
  unfolding table_text
  table-short top none rows =
      either (λ (l : List ℕ). length l ≤ suc (length rows) * line_bytes) (any t.shown rows)
      (omega (arith, length-append (header t.columns) (row_lines t 1 rows), rows_short 1 rows))
      (omega arith)

-- ---- the whole

-- a text behind the one that stands at the front of an area
front-more : {area text bytes after : List ℕ} {n next : ℕ} → IsFront area n text → length (text ++ bytes) ≤ length area → Wrote area n bytes after next
    → IsFront after next (text ++ bytes)
front-more {area} {text} {bytes} {after} {n} {next} f h w =
    let long : length text ≡ n = sym (ap length f.bytes) ∙ omega (arith, length-take n area, f.inside) in
    let fits : n + length bytes ≤ length area = omega (arith, length-append text bytes) in
    let p = w.all fits in
    let e : after ≡ over area n bytes = p.area ∙ placed-room area n bytes fits in
    let end : next ≡ n + length bytes = p.place ∙ next-room area n bytes fits in
    record {
      bytes = ap (λ (k : ℕ). take k after) end ∙ ap (take (n + length bytes)) (e ∙ sym (over-paste area n bytes))
          ∙ take-paste area n bytes (length bytes) (omega arith) (omega arith) ∙ ap₂ (λ (l r : List ℕ). l ++ r) f.bytes (take-length bytes);
      inside = omega (arith, ap length e, length_over area n bytes fits);
    }

module _ (script : List ℕ) (place : ℕ) (ts : List TaskRow) (ms : List MutexRow) (bs : List BufferRow) (ps : List PoolRow) (many-tasks : length ts ≡ tasks) (many-mutexes : length ms ≡ mutexes)
    (many-buffers : length bs ≡ buffers) (many-pools : length ps ≡ pools) where
  tables-short : length (tables_text ts ms bs ps) ≤ (suc tasks + suc mutexes + suc buffers + suc pools) * line_bytes + 3
  unfolding tables_text task_table mutex_table buffer_table pool_table in_column
  tables-short =
      let t = table_text task_table ts in
      let m = table_text mutex_table ms in
      let b = table_text buffer_table bs in
      let p = table_text pool_table ps in
      let end = ascii "\n" in
      omega (
        arith,
        length-append (t ++ end ++ m ++ end ++ b ++ end) p,
        length-append (t ++ end ++ m ++ end ++ b) end,
        length-append (t ++ end ++ m ++ end) b,
        length-append (t ++ end ++ m) end,
        length-append (t ++ end) m,
        length-append t end,
        table-short task_table (omega arith) (omega arith) (omega arith) ts,
        table-short mutex_table (omega arith) (omega arith) (omega arith) ms,
        table-short buffer_table (omega arith) (omega arith) (omega arith) bs,
        table-short pool_table (omega arith) (omega arith) (omega arith) ps,
      )

  wall-fits : length (wall_text script place ts ms bs ps) ≤ text_bytes
  unfolding wall_text
  wall-fits =
      omega (
        arith,
        length-append (place_line script place) (ascii "\n" ++ tables_text ts ms bs ps),
        place-fits script place,
        tables-short,
      )

  pub wall-is : {mid end after : List ℕ} {n i next : ℕ} → length mid ≡ text_bytes → IsFront mid n (turn_text script place Over []) → Appends mid n (ascii "\n") end i
      → Wrote end i (tables_text ts ms bs ps) after next → IsFront after next (wall_text script place ts ms bs ps)
  unfolding wall_text turn_text
  wall-is long f p q = front-more (rw append-nil at f) (omega (arith, long, wall-fits)) (wrote-more (wrote p) q)
