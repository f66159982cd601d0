-- A table, over any kind of row: its columns, the cells of a row, which rows are shown, and what is said where none is.
use Rattle.std.specs.Prelude.{ℕ, suc, Bool, cond, List, [], ◌∷◌, ◌++◌, map}
use Prim.Native.String.{String}
use Rattle.model.specs.Lists.{any}
use Rattle.text.specs.Names.{ascii}
use Rattle.board_text.specs.declared.cell.Cell.{Cell}
use Rattle.board_text.specs.declared.column.Column.{Column}
use Rattle.board_text.specs.Cell.{cell_text}
use Rattle.board_text.specs.Column.{line_of, header}

pub record Table (R : Type 0) : Type 0 where
  pub columns : List (Column × String)
  pub cells : ℕ → R → List Cell
  pub shown : R → Bool
  pub nothing : String

module _ {R : Type 0} (t : Table R) where
  -- the line of a row, by the object's number
  abbrev pub row_line : ℕ → R → List ℕ
  row_line n row = line_of t.columns (map cell_text (t.cells n row))

  -- those of the rows that are shown; the first row is object n's
  abbrev pub row_lines : ℕ → List R → List ℕ
  row_lines n [] = []
  row_lines n (row ∷ rows) = cond (t.shown row) (row_line n row) [] ++ row_lines (suc n) rows

  -- row 1 is object 1's
  unfoldable pub table_text : List R → List ℕ
  table_text rows = cond (any t.shown rows) (header t.columns ++ row_lines 1 rows) (ascii t.nothing)

-- a line that stands only where none is there yet
abbrev pub unless : Bool → List ℕ → List ℕ
unless there line = cond there [] line
