-- Names by a table: one that is in it, and one that is not. Assumes nothing.
use Prim.Native.Nat.{ℕ}
use Prim.Native.String.{String}
use mathlib.Core.Path.{◌≡◌, ◌∙◌, refl, sym, ap}
use mathlib.Core.List.{List, [], ◌∷◌, map}
use Rattle.model.proofs.Terms.{ne_eqb, ◌!◌}
use Rattle.script.specs.Place.{Appends, Wrote}
use Rattle.script.proofs.Appending.{none, wrote}
use Rattle.text.specs.Names.{ascii, named}
use Rattle.text.specs.Item.{Form, forms, no_form, form_in, item_text}

-- A match's arm: the number is the arm's, and the arm puts the arm's name.
pub arm : (rows : List (ℕ × String)) {n k at next : ℕ} {line after : List ℕ} → n ≡ k → Appends line at (ascii (named k rows)) after next
    → Appends line at (ascii (named n rows)) after next
arm rows e h = rw e h

-- What a match knows in its last arm: the number is none of the others', from the first on.
abbrev pub Rest : ℕ → Type 0 → List ℕ → Type 0
Rest n known [] = known
Rest n known (k ∷ ks) = Rest n (known × (n ≡ k → ⊥)) ks

abbrev numbers : List (ℕ × String) → List ℕ
numbers rows = map (λ r. r.0) rows

known-all : (n : ℕ) (known : Type 0) (rows : List (ℕ × String)) → Rest n known (numbers rows) → known × (named n rows ≡ "")
known-all n known [] h = (h, refl)
known-all n known (r ∷ rows) h =
    let k = known-all n (known × (n ≡ r.0 → ⊥)) rows h in
    (k.0.0, rw (ne_eqb n r.0 k.0.1, named) k.1)

-- so it has no name, and nothing is put
pub no-name : (rows : List (ℕ × String)) (n : ℕ) → Rest n (Unit {0}) (numbers rows) → [] ≡ ascii (named n rows)
no-name rows n h = rw (known-all n (Unit {0}) rows h).1

pub last_arm : (rows : List (ℕ × String)) (n at : ℕ) (line : List ℕ) → Rest n (Unit {0}) (numbers rows) → Appends line at (ascii (named n rows)) line at
last_arm rows n at line h = rw (known-all n (Unit {0}) rows h).1 (none line at)

-- the same for the forms of items
abbrev tags : List Form → List ℕ
tags fs = map (λ f. f.tag) fs

formless : (n : ℕ) (known : Type 0) (fs : List Form) → Rest n known (tags fs) → known × (form_in n fs ≡ no_form)
formless n known [] h = (h, refl)
formless n known (f ∷ fs) h =
    let k = formless n (known × (n ≡ f.tag → ⊥)) fs h in
    (k.0.0, rw (ne_eqb n f.tag k.0.1, form_in) k.1)

pub no-form : (n : ℕ) → Rest n (Unit {0}) (tags forms) → form_in n forms ≡ no_form
no-form n h = (formless n (Unit {0}) forms h).1

-- An item's form where the match has told its tag, and in the last arm.
module _ (item : List ℕ) {line after : List ℕ} {at next n : ℕ} (e : n ≡ item ! 0) where
  pub item-arm : (k : ℕ) → n ≡ k → Wrote line at ((form_in k forms).text item) after next → Wrote line at (item_text item) after next
  unfolding item_text
  item-arm k m p = rw (ap (λ (t : ℕ). form_in t forms) (sym e ∙ m), item_text) p

  pub item-last : Rest n (Unit {0}) (tags forms) → Appends line at (ascii "no item") after next → Wrote line at (item_text item) after next
  unfolding item_text
  item-last h p = rw (sym (ap (λ (t : ℕ). form_in t forms) e) ∙ no-form n h, item_text) (wrote p)
