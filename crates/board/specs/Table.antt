-- 02, request One: "the four sharing one proved rule for which rows change". What a board call answers and leaves, over any kind of row.
use Rattle.std.specs.Prelude.{ℕ, zero, suc, Bool, cond, List, [], ◌∷◌, length, ℤ, pos, negsuc, ltb, Result, Ok, Err}
use Rattle.model.specs.Code.{E_OK, E_SYS, E_PAR}
use Rattle.model.specs.Errors.{code_of}
use Rattle.model.specs.declared.code.Error.{Error}

-- The answer, and the table as it is left.
pub record Board (R : Type 0) : Type 0 where
  pub code : ℤ
  pub rows : List R

module _ {R : Type 0} where
  abbrev pub board : ℤ → List R → Board R
  board code rows = record { code = code; rows = rows }

  -- "Row n is task n's; only rows of existing tasks are written": the rows of n objects, the first of which has the number i. Rows behind them
  -- are as they came.
  abbrev pub written : (ℕ → Bool) → (ℕ → R) → ℕ → ℕ → List R → List R
  written exists row_of i zero rows = rows
  written exists row_of i (suc n) [] = []
  written exists row_of i (suc n) (row ∷ rows) = cond (exists i) (row_of i) row ∷ written exists row_of (suc i) n rows

  -- "an unsound state is -5, then fewer [rows than objects] is -17, with nothing written"
  unfoldable pub board_of : Bool → ℕ → (ℕ → Bool) → (ℕ → R) → List R → Board R
  board_of valid objects exists row_of rows =
      cond valid
      (cond (ltb (length rows) objects) (board E_PAR rows) (board E_OK (written exists row_of 1 objects rows)))
      (board E_SYS rows)

-- the number of an answer: no error is 0
abbrev pub answer_code : Result Unit Error → ℤ
answer_code (Ok _) = E_OK
answer_code (Err e) = code_of e

-- ---- the same by parts; `by_parts` of `proofs/Rule.antt` proves that together they are `board_of`

-- its answer, from how many rows are lent; and how many rows are looked at: every object's where the answer is no error, else none
unfoldable pub board_code : Bool → ℕ → ℕ → ℤ
board_code valid objects rows = cond valid (cond (ltb rows objects) E_PAR E_OK) E_SYS

unfoldable pub rows_seen : ℤ → ℕ → ℕ
rows_seen (pos n) objects = objects
rows_seen (negsuc n) objects = 0
