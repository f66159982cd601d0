-- Loops over the numbers up to a last one: what is made of those that are left is the whole answer. Assumes nothing.
use Prim.Native.Nat.{ℕ, suc, ◌+◌, ◌-◌, ◌≤◌, ◌<◌}
use native.Mathlib.Numerals.{add-one}
use native.Mathlib.Omega.{arith}
use mathlib.Core.Path.{◌≡◌, ◌∙◌, sym}
use mathlib.Core.Bool.{Bool, true, false, ◌&&◌, ◌||◌}
use mathlib.Core.List.{List, [], ◌∷◌}
use Rattle.model.specs.Lists.{all, any, first_where, count_from, up_to}
use Rattle.model.specs.Number.{word_number}
use Rattle.model.proofs.NumberLaws.{Names, Kind, named, never-unnamed}

-- the numbers from n to the last
abbrev pub numbers : ℕ → ℕ → List ℕ
numbers last n = count_from n (suc last - n)

module _ {X : Type 0} (h : List ℕ → X) (last : ℕ) where
  pub rest_all : h (up_to last) ≡ h (numbers last 1)
  rest_all = rw count
    where
      count : suc last - 1 ≡ last
      count = omega arith

  module _ (n : ℕ) where
    pub rest-here : n ≤ last → h (numbers last n) ≡ h (n ∷ numbers last (n + 1))
    rest-here l = rw (count, add-one)
      where
        count : suc last - n ≡ suc (suc last - (n + 1))
        count = omega arith

    pub rest-done : last < n → h (numbers last n) ≡ h []
    rest-done l = rw none
      where
        none : suc last - n ≡ 0
        none = omega arith

-- ---- the same of the numbers of a kind, each made from a word

pub record Rest {A X : Type 0} (kind : Kind A) (h : List ℕ → X) (n : ℕ) (whole : X) : Type 0 where
  pub rest : whole ≡ h (numbers kind.last n)
  pub low : 1 ≤ n

pub kind-all : {A X : Type 0} (kind : Kind A) (h : List ℕ → X) → Rest kind h 1 (h (up_to kind.last))
kind-all kind h = record { rest = rest_all h kind.last; low = omega arith }

module _ {A X : Type 0} {kind : Kind A} {h : List ℕ → X} {n : ℕ} {whole : X} (left : Rest kind h n whole) where
  module _ {found : A} (made : found ≡ kind.make (word_number n kind.last)) where
    module _ {x : ℕ} (some : found ≡ kind.some x) where
      number : Names kind.last n x
      number = named kind made some

      pub kind-here : whole ≡ h (x ∷ numbers kind.last (n + 1))
      kind-here = left.rest ∙ rest-here h kind.last n number.2 ∙ rw number.0

      pub kind-more : (g : List ℕ → X) → h (x ∷ numbers kind.last (n + 1)) ≡ g (numbers kind.last (n + 1)) → Rest kind g (n + 1) whole
      kind-more g e = record { rest = kind-here ∙ e; low = omega arith }

    -- every number from 1 to the last names something
    pub kind-never : {B : Type 0} {x y : B} → n ≤ kind.last → found ≡ kind.none → x ≡ y
    kind-never high none = absurd (never-unnamed kind made left.low high none)

  pub kind-done : kind.last < n → whole ≡ h []
  kind-done l = left.rest ∙ rest-done h kind.last n l

-- ---- tests asked of one number after the other, n of them passed by: the numbers that are left decide

module _ (p : ℕ → Bool) (last n : ℕ) (low : n < last) {r : Bool} (tells : r ≡ p (n + 1)) where
  module _ {whole : Bool} (left : whole ≡ all p (numbers last (n + 1))) where
    every-here : whole ≡ p (n + 1) && all p (numbers last (n + 1 + 1))
    every-here = left ∙ rest-here (all p) last (n + 1) (omega arith)

    pub every-stop : r ≡ false → false ≡ whole
    every-stop failed = sym (every-here ∙ rw (← tells, failed))

    pub every-more : r ≡ true → whole ≡ all p (numbers last (n + 1 + 1))
    every-more passed = every-here ∙ rw (← tells, passed)

  module _ {whole : Bool} (left : whole ≡ any p (numbers last (n + 1))) where
    any-of-here : whole ≡ p (n + 1) || any p (numbers last (n + 1 + 1))
    any-of-here = left ∙ rest-here (any p) last (n + 1) (omega arith)

    pub any-stop : r ≡ true → true ≡ whole
    any-stop passed = sym (any-of-here ∙ rw (← tells, passed))

    pub any-more : r ≡ false → whole ≡ any p (numbers last (n + 1 + 1))
    any-more failed = any-of-here ∙ rw (← tells, failed)

  module _ {whole : ℕ} (left : whole ≡ first_where p (numbers last (n + 1))) where
    first-of-here : whole ≡ elim r [ true ↦ n + 1 | false ↦ first_where p (numbers last (n + 1 + 1)) ]
    first-of-here = left ∙ rest-here (first_where p) last (n + 1) (omega arith) ∙ rw tells

    pub first-stop : r ≡ true → whole ≡ n + 1
    first-stop passed = first-of-here ∙ rw passed

    pub first-more : r ≡ false → whole ≡ first_where p (numbers last (n + 1 + 1))
    first-more failed = first-of-here ∙ rw failed

pub rest-over : {X : Type 0} (h : List ℕ → X) (last n : ℕ) {whole : X} → whole ≡ h (numbers last (n + 1)) → last ≤ n → whole ≡ h []
rest-over h last n left high = left ∙ rest-done h last (n + 1) (omega arith)
