-- Laws of a table after a board call, over any kind of row.
use mathlib.Core.Path.{◌≡◌, refl, sym, ◌∙◌, ap, subst}
use Prim.Native.Nat.{ℕ, zero, suc, ◌+◌, ◌<◌, ◌≤◌}
use native.Mathlib.Nat.{zero-add, add-zero, suc-add, add-suc, le_of_suc-le-suc, not-suc-le-zero, le_antisymm}
use mathlib.Core.Bool.{Bool, true, false, cond}
use mathlib.Core.List.{List, [], ◌∷◌}
use lib.ListN.{length, set}
use lib.IntN.{ℤ}
use lib.Dec.{ltb}
use borrow.Author.Tests.{ltb-false}
use Rattle.model.specs.Code.{E_OK, E_PAR}
use Rattle.board.specs.Table.{board, written, board_of, board_code, rows_seen}

pub more : (n : ℕ) → n + 1 ≡ suc n
more n = add-suc n 0 ∙ ap suc (add-zero n)

pub moved : (n i : ℕ) → suc n + i ≡ n + suc i
moved n i = suc-add n i ∙ sym (add-suc n i)

module _ {R : Type 0} (exists : ℕ → Bool) (row_of : ℕ → R) where
  -- as many rows as before
  pub length-written : (i n : ℕ) (rows : List R) → length (written exists row_of i n rows) ≡ length rows
  length-written i zero rows = refl
  length-written i (suc n) [] = refl
  length-written i (suc n) (row ∷ rows) = ap suc (length-written (suc i) n rows)

  -- one object more: the table is as it was, or its row is written
  pub row-left : (i n : ℕ) (rows : List R) → exists (n + i) ≡ false → written exists row_of i n rows ≡ written exists row_of i (suc n) rows
  row-left i zero [] e = refl
  row-left i (suc n) [] e = refl
  row-left i zero (row ∷ rows) e = sym (ap (λ (b : Bool). cond b (row_of i) row ∷ rows) (ap exists (sym (zero-add i)) ∙ e))
  row-left i (suc n) (row ∷ rows) e =
      ap (λ (x : List R). cond (exists i) (row_of i) row ∷ x) (row-left (suc i) n rows (ap exists (sym (moved n i)) ∙ e))

  pub row_written : (i n : ℕ) (rows : List R) → n < length rows → exists (n + i) ≡ true
      → set (written exists row_of i n rows) n (row_of (n + i)) ≡ written exists row_of i (suc n) rows
  row_written i n [] l e = absurd (not-suc-le-zero l)
  row_written i zero (row ∷ rows) l e = ap (λ (k : ℕ). row_of k ∷ rows) (zero-add i) ∙ sym (ap (λ (b : Bool). cond b (row_of i) row ∷ rows) (ap exists (sym (zero-add i)) ∙ e))
  row_written i (suc n) (row ∷ rows) l e =
      ap (λ (k : ℕ). cond (exists i) (row_of i) row ∷ set (written exists row_of (suc i) n rows) n (row_of k)) (moved n i)
      ∙ ap (λ (x : List R). cond (exists i) (row_of i) row ∷ x) (row_written (suc i) n rows (le_of_suc-le-suc l) (ap exists (sym (moved n i)) ∙ e))

  -- the same of the table from the first row on, by the number of the object
  pub next-written : (n : ℕ) (rows : List R) → n < length rows → exists (suc n) ≡ true → set (written exists row_of 1 n rows) n (row_of (suc n)) ≡ written exists row_of 1 (suc n) rows
  next-written n rows l e = ap (λ (k : ℕ). set (written exists row_of 1 n rows) n (row_of k)) (sym (more n)) ∙ row_written 1 n rows l (ap exists (more n) ∙ e)

  pub next-left : (n : ℕ) (rows : List R) → exists (suc n) ≡ false → written exists row_of 1 n rows ≡ written exists row_of 1 (suc n) rows
  next-left n rows e = row-left 1 n rows (ap exists (more n) ∙ e)

  -- the answer and the table, each by itself
  pub by_parts : (valid : Bool) (objects : ℕ) (rows : List R)
      → board (board_code valid objects (length rows)) (written exists row_of 1 (rows_seen (board_code valid objects (length rows)) objects) rows) ≡ board_of valid objects exists row_of rows
  unfolding board_of board_code rows_seen
  by_parts false objects rows = refl
  by_parts true objects rows = enough (ltb (length rows) objects)
    where
      enough : (few : Bool)
          → board (cond few E_PAR E_OK) (written exists row_of 1 (rows_seen (cond few E_PAR E_OK) objects) rows) ≡ cond few (board E_PAR rows) (board E_OK (written exists row_of 1 objects rows))
      enough true = refl
      enough false = refl

-- what a row that is looked at tells: the state is valid, the row is an object's, and the table has it
pub seen : (valid : Bool) (objects rows i : ℕ) → i < rows_seen (board_code valid objects rows) objects → (valid ≡ true) × (i < objects) × (objects ≤ rows)
unfolding board_code rows_seen
seen false objects rows i l = absurd (not-suc-le-zero l)
seen true objects rows i l = enough (ltb rows objects) (ltb-false rows objects) l
  where
    enough : (few : Bool) → (few ≡ false → objects ≤ rows) → i < rows_seen (cond few E_PAR E_OK) objects → (true ≡ true) × (i < objects) × (objects ≤ rows)
    enough true h l = absurd (not-suc-le-zero l)
    enough false h l = (refl, l, h refl)

-- ---- the loop of a board call: its answer z, which the machine reads back as y, says how many rows it looks at

module _ (valid : Bool) (objects rows : ℕ) {end : ℕ} {z y : ℤ} (answer : z ≡ board_code valid objects rows) (read : y ≡ z) (all : end ≡ rows_seen y objects) where
  end_is : end ≡ rows_seen (board_code valid objects rows) objects
  end_is = all ∙ ap (λ (x : ℤ). rows_seen x objects) (read ∙ answer)

  pub looked-at : {i : ℕ} → i < end → (valid ≡ true) × (i < objects) × (objects ≤ rows)
  looked-at {i} l = seen valid objects rows i (subst (λ (k : ℕ). i < k) end_is l)

module _ {R : Type 0} (exists : ℕ → Bool) (row_of : ℕ → R) (before : List R) {n : ℕ} {now : List R} (so : now ≡ written exists row_of 1 n before) where
  -- a turn that writes the row of an object, and one that leaves it
  pub turn-writes : {there : Bool} {row : R} {after : List R} → n < length before → there ≡ exists (suc n) → there ≡ true → row ≡ row_of (suc n) → after ≡ set now n row
      → after ≡ written exists row_of 1 (n + 1) before
  turn-writes l e t r w =
      w ∙ (λ i. set (so i) n (r i)) ∙ next-written exists row_of n before l (sym e ∙ t) ∙ ap (λ (k : ℕ). written exists row_of 1 k before) (sym (more n))

  pub turn-leaves : {there : Bool} {after : List R} → there ≡ exists (suc n) → there ≡ false → after ≡ now → after ≡ written exists row_of 1 (n + 1) before
  turn-leaves e f w = w ∙ so ∙ next-left exists row_of n before (sym e ∙ f) ∙ ap (λ (k : ℕ). written exists row_of 1 k before) (sym (more n))

  pub all-turns : (valid : Bool) (objects : ℕ) {end : ℕ} {z y : ℤ} → z ≡ board_code valid objects (length before) → y ≡ z → end ≡ rows_seen y objects → n ≤ end → end ≤ n
      → board y now
      ≡ board (board_code valid objects (length before)) (written exists row_of 1 (rows_seen (board_code valid objects (length before)) objects) before)
  all-turns valid objects answer read all few enough =
      let reached : n ≡ rows_seen (board_code valid objects (length before)) objects = le_antisymm few enough ∙ end_is valid objects (length before) answer read all in
      (λ i. board ((read ∙ answer) i) ((so ∙ ap (λ (k : ℕ). written exists row_of 1 k before) reached) i))
