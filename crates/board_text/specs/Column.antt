-- How cells stand in their columns, two spaces between them; numbers at the right, words at the left, and no spaces at the end of a line.
use Rattle.std.specs.Prelude.{ℕ, ◌-◌, List, [], ◌∷◌, ◌++◌, map, length, replicate}
use Prim.Native.String.{String}
use Rattle.text.specs.Names.{ascii}
use Rattle.board_text.specs.declared.column.Column.{Column}
use Rattle.board_text.specs.declared.column.Column.TheVariants.{Right, Left, Last}

abbrev pub spaces : ℕ → List ℕ
spaces n = replicate n 32

unfoldable pub in_column : Column → List ℕ → List ℕ
in_column (Right width) cell = spaces (width - length cell) ++ cell ++ ascii "  "
in_column (Left width) cell = cell ++ spaces (width - length cell) ++ ascii "  "
in_column Last cell = cell ++ ascii "\n"

-- Columns with their titles. A line has a cell for each.
abbrev pub line_of : List (Column × String) → List (List ℕ) → List ℕ
line_of [] cells = []
line_of (c ∷ cs) [] = []
line_of (c ∷ cs) (cell ∷ cells) = in_column c.0 cell ++ line_of cs cells

-- the titles as a line
abbrev pub header : List (Column × String) → List ℕ
header columns = line_of columns (map (λ c. ascii c.1) columns)
