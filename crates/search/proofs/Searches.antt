-- Searches through the numbers of a kind: for the first whose entry is 0, and for one that passes a test. Assumes nothing.
use Prim.Native.Nat.{ℕ, ◌+◌, ◌≤◌, ◌<◌}
use mathlib.Core.Path.{◌≡◌, ◌∙◌, sym, ap}
use mathlib.Core.Bool.{Bool, true, false}
use mathlib.Core.List.{List, ◌∷◌}
use lib.Dec.{eqb}
use borrow.Author.Tests.{eq-eqb, ne_eqb}
use borrow.Author.Rules.{rules}
use Rattle.model.specs.Lists.{◌!◌, any, first_where, up_to}
use Rattle.model.specs.Number.{word_number}
use Rattle.model.specs.Act.{unused}
use Rattle.model.proofs.ListLaws.{or_left}
use Rattle.model.proofs.ByCase.{first-here, first-later}
use Rattle.model.proofs.NumberLaws.{Kind, named, word-in-range}
use Rattle.model.proofs.Rest.{numbers, Rest, kind-all, kind-here, kind-more, kind-never, kind-done}

-- ---- the first that is 0

abbrev pub is_zero : (ℕ → ℕ) → ℕ → Bool
is_zero f i = eqb (f i) 0

module _ (f : ℕ → ℕ) (xs : List ℕ) {x v : ℕ} (e : v ≡ f x) where
  pub zero-here : v ≡ 0 → first_where (is_zero f) (x ∷ xs) ≡ x
  zero-here z = first-here (is_zero f) x xs (eq-eqb (f x) 0 (sym e ∙ z))

  pub zero-later : (v ≡ 0 → ⊥) → first_where (is_zero f) (x ∷ xs) ≡ first_where (is_zero f) xs
  zero-later d = first-later (is_zero f) x xs (ne_eqb (f x) 0 (λ q. d (e ∙ q)))

-- ---- "the smallest free number"

pub record Unused {A : Type 0} (kind : Kind A) (entries : List ℕ) (n : ℕ) : Type 0 where
  pub left : Rest kind (first_where (is_zero (◌!◌ entries))) n (unused entries kind.last)

pub unused-all : {A : Type 0} (kind : Kind A) (entries : List ℕ) → Unused kind entries 1
unfolding unused
unused-all kind entries = record { left = kind-all kind (first_where (is_zero (◌!◌ entries))) }

module _ {A : Type 0} (kind : Kind A) {entries : List ℕ} {n : ℕ} (asked : Unused kind entries n) where
  module _ {found : A} (made : found ≡ kind.make (word_number n kind.last)) where
    module _ {x : ℕ} (some : found ≡ kind.some x) {v : ℕ} (e : v ≡ entries ! x) where
      pub unused-here : v ≡ 0 → {y : A} → found ≡ y → y ≡ kind.make (unused entries kind.last)
      unused-here z same =
          let is = named kind made some in
          let first = kind-here asked.left made some ∙ zero-here (◌!◌ entries) (numbers kind.last (n + 1)) e z in
          sym same ∙ made ∙ ap kind.make (word-in-range kind.last n is.2 ∙ sym is.0 ∙ sym first)

      pub unused-later : (v ≡ 0 → ⊥) → Unused kind entries (n + 1)
      unused-later d = record { left = kind-more asked.left made some _ (zero-later (◌!◌ entries) (numbers kind.last (n + 1)) e d) }

    pub unused-never : n ≤ kind.last → found ≡ kind.none → kind.none ≡ kind.make (unused entries kind.last)
    unused-never = kind-never asked.left made

  pub unused-none : kind.last < n → kind.none ≡ kind.make (unused entries kind.last)
  unused-none l = sym (ap kind.make (kind-done asked.left l) ∙ kind.made 0)

-- ---- one that passes a test

abbrev pub AskedAny : {A : Type 0} → Kind A → (ℕ → Bool) → ℕ → Type 0
AskedAny kind p n = Rest kind (any p) n (any p (up_to kind.last))

module _ {A : Type 0} {kind : Kind A} (p : ℕ → Bool) {n : ℕ} {whole : Bool} (left : Rest kind (any p) n whole) where
  module _ {found : A} (made : found ≡ kind.make (word_number n kind.last)) {x : ℕ} (some : found ≡ kind.some x) {r : Bool} (e : r ≡ p x) where
    pub any_here : r ≡ true → true ≡ whole
    any_here t = sym (kind-here left made some ∙ or_left (p x) _ (sym e ∙ t))

    pub any-later : r ≡ false → Rest kind (any p) (n + 1) whole
    any-later f = kind-more left made some (any p) (rw (← e, f))

  pub any_none : kind.last < n → false ≡ whole
  any_none l = sym (kind-done left l)

-- every need of such a loop
pub ruleset anys = (rules, kind-all, any_here, any-later, any_none, kind-never)
