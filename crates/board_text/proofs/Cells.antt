-- What the functions that put cells leave. Assumes nothing.
use Prim.Native.Nat.{ℕ, zero, suc, ◌+◌, ◌-◌, ◌≤◌, ◌<◌}
use native.Mathlib.Nat.{not-suc-le-zero}
use native.Mathlib.Omega.{arith}
use mathlib.Core.Path.{◌≡◌, refl}
use mathlib.Core.Bool.{true, false, true≢false}
use mathlib.Core.List.{List, [], ◌++◌, append-nil}
use lib.IntN.{ℤ, pos, negsuc}
use lib.Signed.{lt_z}
use borrow.Author.Tests.{ltb-true, eq-eqb, ne_eqb}
use Rattle.script.specs.Place.{Appends, Wrote}
use Rattle.script.proofs.Appending.{none, wrote, wrote-more}
use Rattle.text.specs.Names.{ascii}
use Rattle.text.specs.Numbers.{signed_decimal}
use Rattle.text.proofs.Loops.{Left, left-more}
use Rattle.board_text.specs.declared.cell.Cell.{Cell}
use Rattle.board_text.specs.declared.column.Column.{Column}
use Rattle.board_text.specs.Cell.{or_dash, time_text, cell_text}
use Rattle.board_text.specs.Column.{spaces, in_column}

module _ {text after : List ℕ} {at next : ℕ} where
  -- what is put where 0 stands for none
  pub dash : (n : ℕ) (cell : List ℕ) → n ≡ 0 → Appends text at (ascii "-") after next → Wrote text at (or_dash n cell) after next
  dash n cell e p = rw (eq-eqb n 0 e) (wrote p)

  pub no_dash : (n : ℕ) (cell : List ℕ) → (n ≡ 0 → ⊥) → Wrote text at cell after next → Wrote text at (or_dash n cell) after next
  no_dash n cell d p = rw (ne_eqb n 0 d) p

  -- a time by its sign, as the machine reads it back
  pub without_end : (z : ℤ) {y : ℤ} → y ≡ z → lt_z y (pos 0) ≡ true → Appends text at (ascii "endless") after next → Wrote text at (time_text z) after next
  unfolding time_text
  without_end (pos n) same e p = absurd (not-suc-le-zero (ltb-true n 0 (rw same at e)))
  without_end (negsuc n) same e p = wrote p

  pub no-time : (z : ℤ) → z ≡ pos 0 → Appends text at (ascii "-") after next → Wrote text at (time_text z) after next
  unfolding time_text
  no-time z e p = rw e (wrote p)

  pub some-time : (z : ℤ) {y : ℤ} {mid : List ℕ} {i : ℕ} → y ≡ z → lt_z y (pos 0) ≡ false → (z ≡ pos 0 → ⊥) → Wrote text at (signed_decimal y) mid i
      → Appends mid i (ascii " ms") after next
      → Wrote text at (time_text z) after next
  unfolding time_text signed_decimal
  some-time (pos zero) same e d p q = absurd (d refl)
  some-time (pos (suc n)) same e d p q = wrote-more (rw same at p) (wrote q)
  some-time (negsuc n) same e d p q = absurd (true≢false (rw same at e))

  -- a cell and a column, once the match has told which
  pub told : {cell : Cell} (c : Cell) → cell ≡ c → Wrote text at (cell_text c) after next → Wrote text at (cell_text cell) after next
  told c e p = rw e p

  pub column-told : (cell : List ℕ) {column : Column} (c : Column) → column ≡ c → Wrote text at (in_column c cell) after next
      → Wrote text at (in_column column cell) after next
  column-told cell c e p = rw e p

-- behind the last cell of a line nothing is left
pub last-cell : {text cell after : List ℕ} {at next : ℕ} → Wrote text at cell after next → Wrote text at (cell ++ []) after next
last-cell p = rw append-nil p

-- ---- spaces, one by one

pub no-space-yet : (text : List ℕ) (at n : ℕ) → Left text at (spaces n) text at (spaces (n - 0))
no-space-yet text at n = let all : n - 0 ≡ n = omega arith in rw all (λ after k w. w)

module _ {text₀ text : List ℕ} {at next : ℕ} (n i : ℕ) (left : Left text₀ at (spaces n) text next (spaces (n - i))) where
  pub more-spaces : {mid : List ℕ} {k : ℕ} → i < n → Appends text next (ascii " ") mid k → Left text₀ at (spaces n) mid k (spaces (n - (i + 1)))
  more-spaces h p = let one : n - i ≡ suc (n - (i + 1)) = omega arith in left-more (rw one at left) (wrote p)

  pub all-spaces : n ≤ i → Wrote text₀ at (spaces n) text next
  all-spaces h = let done : n - i ≡ 0 = omega arith in left text next (rw done (wrote (none text next)))
