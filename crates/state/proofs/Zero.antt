-- Lists whose entry 0 is 0: the lengths are the fields', so the entries decide. Assumes nothing.
use Prim.Native.Nat.{ℕ, suc}
use mathlib.Core.Path.{◌≡◌, ◌∙◌, refl, ap}
use mathlib.Core.List.{List, [], ◌∷◌, map}
use lib.ListN.{length, get_or}
use lib.Dec.{eqb}
use borrow.Author.Tests.{eq-eqb}
use Rattle.model.specs.Lists.{◌!◌}
use Rattle.model.specs.Valid.{lists}
use Rattle.model.specs.Flags.{every, joined_flags}
use Rattle.model.proofs.FlagLaws.{joined-every}
use Rattle.model.specs.Words.{cut, sizes}
use Rattle.state.proofs.LayoutLaws.{offset, read}
use Rattle.state.specs.Layout.{entry}

-- every list as long as a list of its kind
abbrev pub Long : ℕ → List (List ℕ) → Type 0
Long n [] = Unit
Long n (x ∷ xs) = (length x ≡ suc n) × Long n xs

pub by-entry : (n : ℕ) (xs : List (List ℕ)) → Long n xs → every (map (λ x. eqb (x ! 0) 0) xs) ≡ lists n xs
by-entry n [] h = refl
by-entry n (x ∷ xs) h = rw (eq-eqb (length x) (suc n) h.0, by-entry n xs h.1)

pub told : (n : ℕ) (xs : List (List ℕ)) → Long n xs → joined_flags (map (λ x. eqb (x ! 0) 0) xs) ≡ lists n xs
told n xs h = joined-every (map (λ x. eqb (x ! 0) 0) xs) ∙ by-entry n xs h

-- a field's entry 0, by what is read there
pub entry_zero : (w : List ℕ) (f : ℕ) → eqb (entry w (offset sizes f) (get_or sizes f 0) 0) 0 ≡ eqb (get_or (cut sizes w) f [] ! 0) 0
entry_zero w f = ap (λ (v : ℕ). eqb v 0) (read sizes w f 0)
