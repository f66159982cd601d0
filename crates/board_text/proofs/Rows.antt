-- The rows of a table put one behind the other, whatever the kind of row: a header above the first that is shown, or else a line that says that there is none.
-- Assumes nothing.
use Prim.Native.Nat.{ℕ, suc, ◌+◌, ◌≤◌, ◌<◌}
use native.Mathlib.Numerals.{add-one}
use mathlib.Core.Path.{◌≡◌, ◌∙◌, refl, sym, ap}
use mathlib.Core.Bool.{Bool, true, false, ◌||◌, cond}
use mathlib.Core.List.{List, [], ◌∷◌, ◌++◌}
use lib.ListN.{length, get_or, drop, drop_of_length-le}
use lib.Seq.{drop-cons}
use Rattle.model.proofs.Terms.{any, not, ne_eqb}
use Rattle.status.specs.Blank.{largest_word}
use Rattle.script.specs.Place.{Appends, Wrote}
use Rattle.script.proofs.Appending.{none, wrote}
use Rattle.text.specs.Names.{ascii}
use Rattle.text.proofs.Loops.{Left, left-more}
use Rattle.board_text.specs.Column.{header}
use Rattle.board_text.specs.Table.{Table, row_line, row_lines, table_text, unless}
use Rattle.board_text.specs.Tables.{written}

module _ {R : Type 0} (t : Table R) where
  -- what is left from a row on, where a row before it was shown and where none was
  abbrev pub rest : Bool → ℕ → List R → List ℕ
  rest there n [] = unless there (ascii t.nothing)
  rest there n (row ∷ rows) =
      cond (t.shown row) (unless there (header t.columns) ++ (row_line t n row ++ rest true (suc n) rows)) (rest there (suc n) rows)

  after_first : (n : ℕ) (rows : List R) → rest true n rows ≡ row_lines t n rows
  after_first n [] = refl
  after_first n (row ∷ rows) =
      elim (t.shown row) as
      (λ b. cond b (row_line t n row ++ rest true (suc n) rows) (rest true (suc n) rows) ≡ cond b (row_line t n row) [] ++ row_lines t (suc n) rows) [
        | true ↦ ap (λ (l : List ℕ). row_line t n row ++ l) (after_first (suc n) rows)
        | false ↦ after_first (suc n) rows
      ]

  all-rows : (n : ℕ) (rows : List R)
      → rest false n rows ≡ cond (any t.shown rows) (header t.columns ++ row_lines t n rows) (ascii t.nothing)
  all-rows n [] = refl
  all-rows n (row ∷ rows) =
      let top = header t.columns in
      let line = row_line t n row in
      elim (t.shown row) as
      (λ b. cond b (top ++ (line ++ rest true (suc n) rows)) (rest false (suc n) rows)
      ≡ cond (b || any t.shown rows) (top ++ (cond b line [] ++ row_lines t (suc n) rows)) (ascii t.nothing)) [
        | true ↦ ap (λ (l : List ℕ). top ++ (line ++ l)) (after_first (suc n) rows)
        | false ↦ all-rows (suc n) rows
      ]

-- A loop's invariant: whoever puts what is left from row i on has put the table.
pub record RowsLeft {R : Type 0} (t : Table R) (rows : List R) (text₀ : List ℕ) (at : ℕ) (there : Bool) (i : ℕ) (text : List ℕ) (next : ℕ) : Type 0 where
  pub left : Left text₀ at (rest t false 1 rows) text next (rest t there (suc i) (drop i rows))
  pub long : length text ≡ length text₀

pub no-row-yet : {R : Type 0} (t : Table R) (rows : List R) (text : List ℕ) (at : ℕ) → RowsLeft t rows text at false 0 text at
no-row-yet t rows text at = record { left = λ after n w. w; long = refl }

module _ {R : Type 0} {t : Table R} {rows : List R} {text₀ text : List ℕ} {at next i : ℕ} {there : Bool} (l : RowsLeft t rows text₀ at there i text next) where
  -- a turn that passes a row by, and one that puts it
  module _ {row : R} (here : row ≡ get_or rows i row) (inside : i < length rows) where
    pub row-passed : t.shown row ≡ false → RowsLeft t rows text₀ at there (i + 1) text next
    row-passed e = record { left = rw (add-one) (rw (drop-cons rows i row inside, ← here, e) at l.left); long = l.long }

    pub row_put : {mid after : List ℕ} {j k : ℕ} → t.shown row ≡ true → Appends text next (unless there (header t.columns)) mid j
        → Wrote mid j (row_line t (i + 1) row) after k → length after ≡ length text
        → RowsLeft t rows text₀ at true (i + 1) after k
    row_put e p q same =
        record {
          left = rw (add-one) (left-more (left-more (rw (drop-cons rows i row inside, ← here, e) at l.left) (wrote p)) (rw (add-one) at q));
          long = same ∙ l.long;
        }

  pub table-put : {after : List ℕ} {k : ℕ} → length rows ≤ i → Appends text next (unless there (ascii t.nothing)) after k → Wrote text₀ at (table_text t rows) after k
  unfolding table_text
  table-put done p = rw (sym (all-rows t 1 rows)) (l.left _ _ (rw (drop_of_length-le rows {i = i} done) (wrote p)))

-- ---- a line that stands only where none is there yet

module _ {text : List ℕ} {at : ℕ} (line : List ℕ) {there : Bool} where
  pub there_already : there ≡ true → Appends text at (unless there line) text at
  there_already e = rw e (none text at)

  pub not_there : {after : List ℕ} {next : ℕ} → there ≡ false → Appends text at line after next → Appends text at (unless there line) after next
  not_there e p = rw e p

-- a row whose field is not the largest word is shown
pub not-blank : {word : ℕ} → (word ≡ largest_word → ⊥) → written word ≡ true
not-blank d = ap not (ne_eqb _ _ d)
