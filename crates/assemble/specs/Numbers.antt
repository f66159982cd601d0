-- Words that are numbers: decimal digits, with a minus in front of them or not. "Fields are signed 32-bit".
use Rattle.std.specs.Prelude.{ℕ, ◌+◌, ◌*◌, ◌-◌, ◌^◌, Bool, ◌&&◌, cond, length, drop, ℤ, eqb, leb, ltb, pos, Option, Some, None, option_and_then}
use mathlib.Core.List.{List, foldl}
use Rattle.model.specs.Lists.{◌!◌}
use Rattle.model.specs.Code.{minus}

-- the largest magnitude of a field
abbrev pub largest : ℕ
largest = 2 ^ 31

abbrev pub is_digit : ℕ → Bool
is_digit c = leb 48 c && leb c 57

-- a digit more behind a number; no number if that is too large, or if it is no digit
unfoldable pub with_digit : ℕ → ℕ → Option ℕ
with_digit n c = cond (is_digit c) (cond (leb (10 * n + (c - 48)) largest) (Some (10 * n + (c - 48))) None) None

-- behind no number, no number
abbrev pub and_digit : Option ℕ → ℕ → Option ℕ
and_digit m c = option_and_then (λ n. with_digit n c) m

-- what digits come to, from a place of a word on: one digit at least
unfoldable pub magnitude : List ℕ → ℕ → Option ℕ
magnitude word from = cond (ltb from (length word)) (foldl and_digit (Some 0) (drop from word)) None

-- without a minus: at most 2,147,483,647
unfoldable pub from_zero_up : ℕ → Option ℤ
from_zero_up n = cond (ltb n largest) (Some (pos n)) None

-- with a minus: at least -2,147,483,648
unfoldable pub below_zero : ℕ → Option ℤ
below_zero n = cond (leb n largest) (Some (minus n)) None

-- the number that a word is from a place on
unfoldable pub number_at : List ℕ → ℕ → Option ℤ
number_at word from =
    cond (ltb from (length word))
    (cond (eqb (word ! from) 45) (option_and_then below_zero (magnitude word (from + 1))) (option_and_then from_zero_up (magnitude word from)))
    None

-- what has to unfold for the definitions of this file to compute
unfoldable pub compute_numbers : Unit {0}
unfolding with_digit magnitude from_zero_up below_zero number_at
compute_numbers = tt
