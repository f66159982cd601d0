-- Laws of the table of kinds: what holds of every row, which antt computes for all rows at once. Assumes nothing.
use Prim.Native.Nat.{ℕ, zero, suc, ◌+◌, ◌*◌, ◌-◌, ◌≤◌, ◌<◌}
use native.Mathlib.Omega.{arith}
use mathlib.Core.Path.{◌≡◌, ◌∙◌, refl, sym, ap}
use mathlib.Core.Bool.{Bool, true, false, cond}
use mathlib.Core.List.{List, [], ◌∷◌, map}
use mathlib.Core.Option.{Option, none, some}
use lib.Dec.{eqb, leb}
use lib.IntN.{ℤ}
use borrow.Author.Tests.{eqb-true, leb-true}
use Rattle.std.specs.Prelude.{Some, None}
use Rattle.std.specs.Prelude as code
use Rattle.model.specs.Sizes.{message_bytes}
use Rattle.model.specs.Lists.{count_from}
use Rattle.model.specs.Record.{Row, kinds, lookup, row_of, body_length, kind_of, fields_of}
use Rattle.script.specs.declared.body.Body.{Body}
use Rattle.script.specs.Body.{field_at, split_as, body_parts}

pub none-is-not-some : (r : Row) → none ≡ some r → ⊥
none-is-not-some r e = let z : ◌≡◌ {A = ℕ} 0 1 = cc in omega arith

-- two functions that agree on every row agree on the row that is found
module _ {A : Type 0} (g h : Row → A) (kind : ℕ) (r : Row) where
  here : (found : Bool) (x : Row) (later : Option Row) → g x ≡ h x → (later ≡ some r → g r ≡ h r)
      → elim found [ true ↦ some x | false ↦ later ] ≡ some r → g r ≡ h r
  here true x later e next f = let p : x ≡ r = cc in rw p at e
  here false x later e next f = next f

  agree : (rows : List Row) → map g rows ≡ map h rows → lookup kind rows ≡ some r → g r ≡ h r
  agree [] e f = absurd (none-is-not-some r f)
  agree (x ∷ xs) e f = here (eqb kind x.kind) x (lookup kind xs) (cc) (agree xs (cc)) f

-- a row that is found has the kind
module _ (kind : ℕ) (r : Row) where
  kind-here : (found : Bool) (x : Row) (later : Option Row) → eqb kind x.kind ≡ found → (later ≡ some r → r.kind ≡ kind)
      → elim found [ true ↦ some x | false ↦ later ] ≡ some r → r.kind ≡ kind
  kind-here true x later e next f = let p : x ≡ r = cc in rw p at (sym (eqb-true kind x.kind e))
  kind-here false x later e next f = next f

  kind-found : (rows : List Row) → lookup kind rows ≡ some r → r.kind ≡ kind
  kind-found [] f = absurd (none-is-not-some r f)
  kind-found (x ∷ xs) f = kind-here (eqb kind x.kind) x (lookup kind xs) refl (kind-found xs) f

-- a body's length is that of a row
pub record Known (found : Option Row) (n : ℕ) : Type 0 where
  pub row : Row
  pub is : found ≡ some row
  pub body : row.body ≡ n

abbrev length_of : Option Row → code.Option ℕ
length_of row = elim row [ none ↦ None | some r ↦ Some r.body ]

known : (found : Option Row) (length : ℕ) → length_of found ≡ Some length → Known found length
known none length e = absurd (let z : ◌≡◌ {A = ℕ} 0 1 = cc in omega arith)
known (some r) length e = record { row = r; is = refl; body = cc }

unknown : (found : Option Row) → length_of found ≡ None → found ≡ none
unknown none e = refl
unknown (some r) e = absurd (let z : ◌≡◌ {A = ℕ} 0 1 = cc in omega arith)

pub known-row : (kind length : ℕ) → body_length kind ≡ Some length → Known (row_of kind) length
unfolding body_length
known-row kind = known (row_of kind)

pub unknown-row : (kind : ℕ) → body_length kind ≡ None → row_of kind ≡ none
unfolding body_length
unknown-row kind = unknown (row_of kind)

-- the parts of a body are those of a row
abbrev parts_of : Option Row → code.Option Body
parts_of row = elim row [ none ↦ None | some r ↦ split_as (4 * r.fields) (r.body - 4 * r.fields) ]

pub no-parts : (kind : ℕ) → row_of kind ≡ none → body_parts kind ≡ None
unfolding body_parts
no-parts kind e = ap parts_of e

pub parts : (kind : ℕ) (r : Row) → row_of kind ≡ some r → body_parts kind ≡ split_as (4 * r.fields) (r.body - 4 * r.fields)
unfolding body_parts
parts kind r e = ap parts_of e

pub record KnownParts (found : Option Row) (f m : ℕ) : Type 0 where
  pub row : Row
  pub is : found ≡ some row
  pub fields : 4 * row.fields ≡ f
  pub message : row.body - 4 * row.fields ≡ m

known-parts : (found : Option Row) (b : Body) → parts_of found ≡ Some b → KnownParts found b.fields b.message
known-parts none b e = absurd (let z : ◌≡◌ {A = ℕ} 0 1 = cc in omega arith)
known-parts (some r) b e =
    let same : ◌≡◌ {A = Body} (record { fields = 4 * r.fields; message = r.body - 4 * r.fields }) b = cc in
    record { row = r; is = refl; fields = ap (λ (x : Body). x.fields) same; message = ap (λ (x : Body). x.message) same }

unknown-parts : (found : Option Row) → parts_of found ≡ None → found ≡ none
unknown-parts none e = refl
unknown-parts (some r) e = absurd (let z : ◌≡◌ {A = ℕ} 0 1 = cc in omega arith)

pub row-of-parts : (kind : ℕ) (b : Body) → body_parts kind ≡ Some b → KnownParts (row_of kind) b.fields b.message
unfolding body_parts
row-of-parts kind = known-parts (row_of kind)

pub row-of-no-parts : (kind : ℕ) → body_parts kind ≡ None → row_of kind ≡ none
unfolding body_parts
row-of-no-parts kind = unknown-parts (row_of kind)

map-agrees : (f g : ℕ → ℤ) (a n : ℕ) → ((i : ℕ) → i < a + n → f i ≡ g i) → map f (count_from a n) ≡ map g (count_from a n)
map-agrees f g a zero e = refl
map-agrees f g a (suc n) e =
    ap (λ (z : ℤ). z ∷ map f (count_from (suc a) n)) (e a (omega arith))
    ∙ ap (λ (zs : List ℤ). g a ∷ zs) (map-agrees f g (suc a) n (λ i h. e i (omega arith)))

-- what holds of each row of the table
module _ (kind : ℕ) (r : Row) (found : row_of kind ≡ some r) where
  pub row-kind : r.kind ≡ kind
  unfolding row_of
  row-kind = kind-found kind r kinds found

  pub fields_fit : 4 * r.fields ≤ r.body
  unfolding row_of kinds
  fields_fit = leb-true (4 * r.fields) r.body (agree (λ (x : Row). leb (4 * x.fields) x.body) (λ (x : Row). true) kind r kinds refl found)

  pub body-short : r.body ≤ 255
  unfolding row_of kinds
  body-short = leb-true r.body 255 (agree (λ (x : Row). leb x.body 255) (λ (x : Row). true) kind r kinds refl found)

  pub fields-few : r.fields ≤ 3
  unfolding row_of kinds
  fields-few = leb-true r.fields 3 (agree (λ (x : Row). leb x.fields 3) (λ (x : Row). true) kind r kinds refl found)

  pub message-size : r.body - 4 * r.fields ≡ cond (eqb r.kind 0x22) message_bytes 0
  unfolding row_of kinds
  message-size = agree (λ (x : Row). x.body - 4 * x.fields) (λ (x : Row). cond (eqb x.kind 0x22) message_bytes 0) kind r kinds refl found

  pub kind-made : (f : ℕ → ℤ) → kind_of (r.call f) ≡ r.kind
  unfolding row_of kinds kind_of
  kind-made f = agree (λ (x : Row). kind_of (x.call f)) (λ (x : Row). x.kind) kind r kinds refl found

  pub fields_made : (f : ℕ → ℤ) → fields_of (r.call f) ≡ map f (count_from 0 r.fields)
  unfolding row_of kinds fields_of
  fields_made f = agree (λ (x : Row). fields_of (x.call f)) (λ (x : Row). map f (count_from 0 x.fields)) kind r kinds refl found

  -- a call is made of its fields alone: of those that the row counts, of which there are at most three
  pub made_of : (f : ℕ → ℤ) → r.call f ≡ r.call (field_at (map f (count_from 0 r.fields)))
  unfolding row_of kinds
  made_of f =
      agree (λ (x : Row). x.call f) (λ (x : Row). x.call (field_at (map f (count_from 0 x.fields)))) kind r kinds refl found

  pub made-of-three : (f : ℕ → ℤ) → r.call (field_at (f 0 ∷ f 1 ∷ f 2 ∷ [])) ≡ r.call f
  unfolding row_of kinds
  made-of-three f = agree (λ (x : Row). x.call (field_at (f 0 ∷ f 1 ∷ f 2 ∷ []))) (λ (x : Row). x.call f) kind r kinds refl found

  pub call-agrees : (f g : ℕ → ℤ) → ((i : ℕ) → i < r.fields → f i ≡ g i) → r.call f ≡ r.call g
  call-agrees f g e =
      made_of f ∙ ap (λ (fs : List ℤ). r.call (field_at fs)) (map-agrees f g 0 r.fields (λ i h. e i (omega arith))) ∙ sym (made_of g)
