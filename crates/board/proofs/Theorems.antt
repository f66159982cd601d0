-- Which rows a board call changes. Assumes nothing.
use Prim.Native.Nat.{ℕ, zero, suc, ◌+◌, ◌≤◌, ◌<◌}
use native.Mathlib.Nat.{not-suc-le-zero, le_refl, le_of_suc-le-suc, lt_of_lt_of_le, zero-add}
use native.Mathlib.Omega.{arith}
use mathlib.Core.Path.{◌≡◌, ◌∙◌, refl, sym, ap, subst}
use mathlib.Core.Logic.{◌≢◌, ◌⊎◌, inl, inr}
use mathlib.Core.Bool.{Bool, true, false, not, cond}
use mathlib.Core.List.{List, [], ◌∷◌}
use lib.ListN.{length, get_or, replicate, length-replicate, get_or-replicate}
use lib.IntN.{ℤ, pos, negsuc}
use lib.Dec.{ltb, eqb}
use borrow.Author.Tests.{ltb-false, le-ltb, eq-eqb, ne_eqb}
use Rattle.model.specs.Sizes.{tasks, mutexes, buffers, pools}
use Rattle.model.specs.Code.{E_OK, E_SYS, E_PAR}
use Rattle.model.specs.Lent.{lent, is_valid}
use Rattle.status.specs.declared.row.TaskRow.{TaskRow}
use Rattle.status.specs.declared.row.MutexRow.{MutexRow}
use Rattle.status.specs.declared.row.BufferRow.{BufferRow}
use Rattle.status.specs.declared.row.PoolRow.{PoolRow}
use Rattle.status.specs.Blank.{blank_task, blank_mutex, blank_buffer, blank_pool}
use Rattle.status.proofs.Sound.{asked-valid}
use Rattle.status.proofs.Blanks.{valid-has-none-blank}
use Rattle.board.specs.Table.{Board, board, written, board_of}
use Rattle.board.specs.Boards.{task_board, mutex_board, buffer_board, pool_board}
use Rattle.board.specs.Statements.{RowsChange, BoardsChangeRows, TheFourChangeRows, BlanksTell}
use Rattle.board.proofs.RowKinds.{task-exists, task-row, mutex-exists, mutex-row, buffer-exists, buffer-row, pool-exists, pool-row}
use Rattle.board.proofs.Rule.{more, moved, length-written}

-- an answer below 0 is not 0
abbrev Below : ℤ → Type 0
Below (pos n) = ⊥
Below (negsuc n) = Unit

module _ {R : Type 0} (exists : ℕ → Bool) (row_of : ℕ → R) where
  -- a row of an object that exists, and any other row
  of-object : (a n i : ℕ) (rows : List R) (r : R) → i < n → i < length rows → exists (i + a) ≡ true → get_or (written exists row_of a n rows) i r ≡ row_of (i + a)
  of-object a zero i rows r l m e = absurd (not-suc-le-zero l)
  of-object a (suc n) i [] r l m e = absurd (not-suc-le-zero m)
  of-object a (suc n) zero (row ∷ rows) r l m e = ap (λ (b : Bool). cond b (row_of a) row) (ap exists (sym (zero-add a)) ∙ e) ∙ ap row_of (sym (zero-add a))
  of-object a (suc n) (suc i) (row ∷ rows) r l m e = of-object (suc a) n i rows r (le_of_suc-le-suc l) (le_of_suc-le-suc m) (ap exists (sym (moved i a)) ∙ e) ∙ ap row_of (sym (moved i a))

  of_none : (a n i : ℕ) (rows : List R) (r : R) → (n ≤ i) ⊎ (exists (i + a) ≡ false) → get_or (written exists row_of a n rows) i r ≡ get_or rows i r
  of_none a zero i rows r o = refl
  of_none a (suc n) i [] r o = refl
  of_none a (suc n) zero (row ∷ rows) r (inl l) = absurd (not-suc-le-zero l)
  of_none a (suc n) zero (row ∷ rows) r (inr e) = ap (λ (b : Bool). cond b (row_of a) row) (ap exists (sym (zero-add a)) ∙ e)
  of_none a (suc n) (suc i) (row ∷ rows) r (inl l) = of_none (suc a) n i rows r (inl (le_of_suc-le-suc l))
  of_none a (suc n) (suc i) (row ∷ rows) r (inr e) = of_none (suc a) n i rows r (inr (ap exists (sym (moved i a)) ∙ e))

  by_number : (objects i : ℕ) → (objects ≤ i) ⊎ (exists (suc i) ≡ false) → (objects ≤ i) ⊎ (exists (i + 1) ≡ false)
  by_number objects i (inl l) = inl l
  by_number objects i (inr e) = inr (ap exists (more i) ∙ e)

  module _ (objects : ℕ) (before : List R) where
    kept : (code : ℤ) → Below code → RowsChange objects exists row_of before (board code before)
    kept code below = record { as_many = refl; refused = λ _. refl; of_object = λ ok. absurd (subst Below ok below); others = λ i o r. refl }

    answered : (few : Bool) → (few ≡ false → objects ≤ length before) → RowsChange objects exists row_of before (cond few (board E_PAR before) (board E_OK (written exists row_of 1 objects before)))
    answered true h = kept E_PAR tt
    answered false h = record {
      as_many = length-written exists row_of 1 objects before;
      refused = λ no. absurd (no refl);
      of_object = λ ok i l e r. of-object 1 objects i before r l (lt_of_lt_of_le l (h refl)) (ap exists (more i) ∙ e) ∙ ap row_of (more i);
      others = λ i o r. of_none 1 objects i before r (by_number objects i o);
    }

pub boards-change-rows : BoardsChangeRows
unfolding board_of
boards-change-rows R false objects exists row_of before = kept exists row_of objects before E_SYS tt
boards-change-rows R true objects exists row_of before = answered exists row_of objects before (ltb (length before) objects) (ltb-false (length before) objects)

pub the-four-change-rows : TheFourChangeRows
unfolding task_board mutex_board buffer_board pool_board
the-four-change-rows w s o =
    let valid = is_valid w s o in
    record {
      task = boards-change-rows TaskRow valid tasks (task-exists w) (task-row w s o);
      mutex = boards-change-rows MutexRow valid mutexes (mutex-exists w) (mutex-row w s o);
      buffer = boards-change-rows BufferRow valid buffers (buffer-exists w) (buffer-row w s o);
      pool = boards-change-rows PoolRow valid pools (pool-exists w) (pool-row w s o);
    }

-- ---- a table that is lent blank

module _ {R : Type 0} (valid : Bool) (is : valid ≡ true) (mark : R → ℕ) (blank : R) (objects : ℕ) (exists : ℕ → Bool) (row_of : ℕ → R)
    (none : (n : ℕ) → 1 ≤ n → n ≤ objects → mark (row_of n) ≢ mark blank) where
  abbrev before : List R
  before = replicate objects blank

  abbrev left : Board R
  left = board_of valid objects exists row_of before

  rows : RowsChange objects exists row_of before left
  rows = boards-change-rows R valid objects exists row_of before

  enough : left.code ≡ E_OK
  unfolding board_of
  enough =
      ap (λ (v : Bool). (cond v (cond (ltb (length before) objects) (board E_PAR before) (board E_OK (written exists row_of 1 objects before))) (board E_SYS before)).code) is
      ∙ ap (λ (few : Bool). (cond few (board E_PAR before) (board E_OK (written exists row_of 1 objects before))).code)
      (le-ltb (length before) objects (subst (λ (n : ℕ). objects ≤ n) (sym (length-replicate objects blank)) (le_refl objects)))

  tells : (i : ℕ) → i < objects → eqb (mark (get_or left.rows i blank)) (mark blank) ≡ not (exists (suc i))
  tells i l = by-case (exists (suc i)) refl
    where
      by-case : (b : Bool) → exists (suc i) ≡ b → eqb (mark (get_or left.rows i blank)) (mark blank) ≡ not b
      by-case true e = ap (λ (r : R). eqb (mark r) (mark blank)) (rows.of_object enough i l e blank) ∙ ne_eqb (mark (row_of (suc i))) (mark blank) (none (suc i) (omega arith) l)
      by-case false e =
          ap (λ (r : R). eqb (mark r) (mark blank)) (rows.others i (inr e) blank ∙ get_or-replicate objects i blank blank l) ∙ eq-eqb (mark blank) (mark blank) refl

pub blanks-tell : BlanksTell
unfolding task_board mutex_board buffer_board pool_board
blanks-tell w s o e =
    let none = valid-has-none-blank (lent w s o) (asked-valid w s o e) in
    record {
      task = tells (is_valid w s o) e (λ r. r.state) blank_task tasks (task-exists w) (task-row w s o) none.task;
      mutex = tells (is_valid w s o) e (λ r. r.holder) blank_mutex mutexes (mutex-exists w) (mutex-row w s o) none.mutex;
      buffer = tells (is_valid w s o) e (λ r. r.free) blank_buffer buffers (buffer-exists w) (buffer-row w s o) none.buffer;
      pool = tells (is_valid w s o) e (λ r. r.free) blank_pool pools (pool-exists w) (pool-row w s o) none.pool;
    }
