-- Loops that go through numbers or places one after another: what is left decides the whole answer. Assumes nothing.
use Prim.Native.Nat.{ℕ, suc, ◌+◌, ◌-◌, ◌≤◌, ◌<◌}
use native.Mathlib.Numerals.{add-one}
use native.Mathlib.Omega.{arith}
use mathlib.Core.Path.{◌≡◌, ◌∙◌, refl, sym, ap}
use mathlib.Core.Bool.{Bool, true, false, ◌&&◌, not}
use mathlib.Core.List.{List, [], ◌∷◌}
use lib.ListN.{length, drop, drop_of_length-le}
use lib.Seq.{drop-cons}
use borrow.Author.Rules.{rules}
use borrow.Author.Tests.{not-true, not-false}
use Rattle.model.specs.Lists.{◌!◌, all, count_from, up_to}
use Rattle.model.specs.Number.{word_number}
use Rattle.model.proofs.NumberLaws.{Names, Kind, named, never-unnamed}

-- ---- a test that is asked of every number: the whole answer is that of the numbers from n to the last

abbrev pub Left : Bool → (ℕ → Bool) → ℕ → ℕ → Type 0
Left whole p last n = (whole ≡ all p (count_from n (suc last - n))) × (n ≤ suc last)

module _ (whole : Bool) (p : ℕ → Bool) (last n : ℕ) (left : Left whole p last n) where
  module _ (h : n ≤ last) (r : Bool) (e : r ≡ p n) where
    step : whole ≡ r && all p (count_from (suc n) (last - n))
    step = left.0 ∙ ap (λ (i : ℕ). all p (count_from n i)) count ∙ ap (λ (b : Bool). b && all p (count_from (suc n) (last - n))) (sym e)
      where
        count : suc last - n ≡ suc (last - n)
        count = omega arith

    pub left-more : r ≡ true → Left whole p last (n + 1)
    left-more passed = (step ∙ ap (λ (b : Bool). b && all p (count_from (suc n) (last - n))) passed ∙ rest, omega arith)
      where
        rest : all p (count_from (suc n) (last - n)) ≡ all p (count_from (n + 1) (suc last - (n + 1)))
        rest = rw (count, first)
          where
            count : suc last - (n + 1) ≡ last - n
            count = omega arith

            first : n + 1 ≡ suc n
            first = omega arith

    pub left-stop : r ≡ false → false ≡ whole
    left-stop failed = sym (step ∙ ap (λ (b : Bool). b && all p (count_from (suc n) (last - n))) failed)

  pub left-done : last < n → true ≡ whole
  left-done h = sym (left.0 ∙ ap (λ (i : ℕ). all p (count_from n i)) none)
    where
      none : suc last - n ≡ 0
      none = omega arith

-- every need of such a loop, where its test is `if !r`
pub ruleset lefts = (rules, left-more, left-stop, left-done, not-true, not-false)

-- ---- the same of the numbers 1 to the last of a kind, each made from a word

pub record Asked {A : Type 0} (kind : Kind A) (p : ℕ → Bool) (n : ℕ) (whole : Bool) : Type 0 where
  pub left : Left whole p kind.last n
  pub low : 1 ≤ n

abbrev pub AskedAll : {A : Type 0} → Kind A → (ℕ → Bool) → ℕ → Type 0
AskedAll kind p n = Asked kind p n (all p (up_to kind.last))

pub ask-all : {A : Type 0} (kind : Kind A) (p : ℕ → Bool) → AskedAll kind p 1
ask-all kind p = record { left = (rw count, omega arith); low = omega arith }
  where
    count : suc kind.last - 1 ≡ kind.last
    count = omega arith

module _ {A : Type 0} {kind : Kind A} {p : ℕ → Bool} {n : ℕ} {whole : Bool} (asked : Asked kind p n whole) where
  module _ {found : A} (made : found ≡ kind.make (word_number n kind.last)) where
    module _ {x : ℕ} (some : found ≡ kind.some x) {r : Bool} (e : r ≡ p x) where
      number : Names kind.last n x
      number = named kind made some

      pub ask-more : not r ≡ false → Asked kind p (n + 1) whole
      ask-more passed =
          record {
            left = left-more whole p kind.last n asked.left number.2 r (e ∙ ap p number.0) (not-false r passed);
            low = omega (arith, asked.low);
          }

      pub ask-stop : not r ≡ true → false ≡ whole
      ask-stop failed = left-stop whole p kind.last n asked.left number.2 r (e ∙ ap p number.0) (not-true r failed)

    -- every number from 1 to the last names something
    pub ask-never : n ≤ kind.last → found ≡ kind.none → false ≡ whole
    ask-never high none = absurd (never-unnamed kind made asked.low high none)

  pub ask-done : kind.last < n → true ≡ whole
  ask-done = left-done whole p kind.last n asked.left

-- every need of such a loop
pub ruleset asks = (rules, ask-all, ask-more, ask-stop, ask-never, ask-done)

-- ---- a list, place after place: the whole answer is that of the entries from place i on

pub record Over {X : Type 0} (h : List ℕ → X) (a : List ℕ) (i : ℕ) (whole : X) : Type 0 where
  pub rest : whole ≡ h (drop i a)
  pub high : i ≤ length a

pub over-all : {X : Type 0} (h : List ℕ → X) (a : List ℕ) → Over h a 0 (h a)
over-all h a = record { rest = refl; high = omega arith }

module _ {X : Type 0} {h : List ℕ → X} {a : List ℕ} {i : ℕ} {whole : X} (over : Over h a i whole) where
  pub over-here : i < length a → whole ≡ h (a ! i ∷ drop (i + 1) a)
  over-here l = over.rest ∙ rw (drop-cons a i 0 l, add-one)

  pub over-more : (g : List ℕ → X) → i < length a → h (a ! i ∷ drop (i + 1) a) ≡ g (drop (i + 1) a) → Over g a (i + 1) whole
  over-more g l e = record { rest = over-here l ∙ e; high = omega arith }

  pub over_done : length a ≤ i → whole ≡ h []
  over_done l = over.rest ∙ ap h (drop_of_length-le a {i = i} l)
