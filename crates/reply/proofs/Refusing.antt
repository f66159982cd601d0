-- The first refusal, condition by condition: a law for one that applies, and one for each that does not. Those of orders 5 and 6 are said once for
-- every kind of object.
use Rattle.std.specs.Prelude.{Result, Ok, Err}
use mathlib.Core.Path.{ap}
use Rattle.model.specs.declared.code.Error.{Error}
use Rattle.model.specs.Errors.{code_of, refusal_of}
use Rattle.model.proofs.Terms.{ℕ, ◌≡◌, ◌∙◌, sym, ◌≢◌, true, false, Option, none, some, List, ◌∷◌, ℤ, pos, eqb, eq-eqb, ne_eqb, ◌!◌, E_ID, E_NOEXS, number, bad_number, no_such, Refusal, refuse, first_refusal, outside}
use mathlib.Core.Bool.{true≢false}
use Rattle.model.specs.Number.{field_number}
use Rattle.model.proofs.NumberLaws.{Kind, is_some, is_none, field-inside, field-outside}
use Rattle.model.proofs.ByCase.{refusal-applies, refusal-not}
use Rattle.model.proofs.RefusalLaws.{applies_at, none-applies}

module _ (r : Refusal) (rs : List Refusal) where
  pub refused-here : r.applies ≡ true → some r.code ≡ first_refusal (r ∷ rs)
  refused-here e = rw (refusal-applies r rs e)

  pub refused-later : {v : Option ℤ} → r.applies ≡ false → v ≡ first_refusal rs → v ≡ first_refusal (r ∷ rs)
  refused-later e f = rw (refusal-not r rs e) f

-- the number that a field names
module _ {A : Type 0} (kind : Kind A) (n : ℤ) {found : A} (made : found ≡ kind.make (field_number n kind.last)) where
  pub unnumbered : found ≡ kind.none → outside (pos 1) (pos kind.last) n ≡ true
  unnumbered e = field-outside kind.last n (is_none kind made e)

  pub numbered : {x : ℕ} → found ≡ kind.some x → (outside (pos 1) (pos kind.last) n ≡ false) × (number n ≡ x)
  numbered e = let q = is_some kind made e in let r = field-inside kind.last n q.1 in (r.0, r.1 ∙ sym q.0)

  -- which it does where no refusal applies, its own among them
  pub never-unnumbered : (rs : List Refusal) (i : ℕ) → first_refusal rs ≡ none → applies_at rs i ≡ outside (pos 1) (pos kind.last) n
      → found ≡ kind.none → ⊥
  never-unnumbered rs i e f g = true≢false (sym (unnumbered g) ∙ sym f ∙ none-applies rs e i)

  -- order 5
  pub number-refused : (rs : List Refusal) → found ≡ kind.none → some E_ID ≡ first_refusal (bad_number kind.last n ∷ rs)
  unfolding bad_number
  number-refused rs e = refused-here (refuse 5 E_ID _) rs (unnumbered e)

  pub number-later : {v : Option ℤ} (rs : List Refusal) {x : ℕ} → found ≡ kind.some x → v ≡ first_refusal rs
      → v ≡ first_refusal (bad_number kind.last n ∷ rs)
  unfolding bad_number
  number-later rs e f = refused-later (refuse 5 E_ID _) rs (numbered e).0 f

  -- orders 5 and 6
  module _ (entries : List ℕ) (rs : List Refusal) {x v : ℕ} (there : found ≡ kind.some x) (v-is : v ≡ entries ! x) where
    pub missing-refused : v ≡ 0 → some E_NOEXS ≡ first_refusal (bad_number kind.last n ∷ no_such entries n ∷ rs)
    unfolding no_such
    missing-refused z =
        number-later (no_such entries n ∷ rs) there (refused-here (refuse 6 E_NOEXS (eqb (entries ! number n) 0)) rs (rw (numbered there).1 (eq-eqb
        (entries ! x) 0 (sym v-is ∙ z))))

    pub there-later : {w : Option ℤ} → v ≢ 0 → w ≡ first_refusal rs
        → w ≡ first_refusal (bad_number kind.last n ∷ no_such entries n ∷ rs)
    unfolding no_such
    there-later z f =
        number-later (no_such entries n ∷ rs) there (refused-later (refuse 6 E_NOEXS (eqb (entries ! number n) 0)) rs (rw (numbered there).1 (ne_eqb
        (entries ! x) 0 (λ q. z (v-is ∙ q)))) f)

-- what a verdict says of the first refusal
pub was-allowed : {r : Result Unit Error} {o : Option ℤ} {x : Unit} → refusal_of r ≡ o → r ≡ Ok x → o ≡ none
was-allowed e is = sym e ∙ ap refusal_of is

pub was-refused : {r : Result Unit Error} {o : Option ℤ} {x : Error} → refusal_of r ≡ o → r ≡ Err x → o ≡ some (code_of x)
was-refused e is = sym e ∙ ap refusal_of is
