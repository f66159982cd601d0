-- A number digit by digit. Assumes nothing.
use Rattle.std.proofs.Common.{◌≡◌, ◌<◌, ◌≤◌, ℕ, suc, ◌∙◌, ap, refl, List, length, drop, get_or, drop-cons, Option, Some, None, lt-ltb, le-ltb}
use mathlib.Core.List.{[], ◌∷◌, foldl}
use Rattle.assemble.specs.Numbers.{and_digit, with_digit, magnitude}

-- behind no number, no number
none_on : (l : List ℕ) → foldl and_digit None l ≡ None
none_on [] = refl
none_on (c ∷ l) = none_on l

module _ (w : List ℕ) (from : ℕ) where
  pub no-digits : length w ≤ from → None ≡ magnitude w from
  unfolding magnitude
  no-digits h = rw (le-ltb from (length w) h, magnitude) refl

  pub digits-from : from < length w → magnitude w from ≡ foldl and_digit (Some 0) (drop from w)
  unfolding magnitude
  digits-from h = rw (lt-ltb from (length w) h, magnitude) refl

-- a digit that makes no number of those before it
pub wrong-digit : (l : List ℕ) (i n : ℕ) → i < length l → with_digit n (get_or l i 0) ≡ None → foldl and_digit (Some n) (drop i l) ≡ None
wrong-digit l i n h e = rw (drop-cons l i 0 h) (ap (λ (m : Option ℕ). foldl and_digit m (drop (suc i) l)) e ∙ none_on (drop (suc i) l))
