-- Laws of reading: what stands at a place of a script, case by case. Assumes nothing.
use Prim.Native.Nat.{ℕ, suc, ◌+◌, ◌*◌, ◌-◌, ◌≤◌, ◌<◌}
use native.Mathlib.Numerals.{add-one}
use native.Mathlib.Omega.{arith}
use mathlib.Core.Path.{◌≡◌, ◌∙◌, refl, sym, ap}
use mathlib.Core.Bool.{Bool, true, false}
use mathlib.Core.List.{List, [], ◌∷◌}
use mathlib.Core.Option.{Option, none, some}
use lib.ListN.{length, take, drop, length-drop, drop_of_length-le}
use lib.Seq.{drop-cons, drop-drop, get_or-take}
use lib.Dec.{leb}
use lib.IntN.{ℤ}
use borrow.Author.Tests.{le-leb, lt-leb, leb-true}
use Rattle.model.specs.declared.call.Call.{Call}
use Rattle.model.specs.declared.call.Cursor.{Cursor}
use Rattle.model.specs.declared.call.Record.{Record}
use Rattle.model.specs.declared.call.Stop.{Stop}
use Rattle.std.specs.Prelude.{Result}
use Rattle.model.specs.Lists.{◌!◌}
use Rattle.model.specs.Record.{Row, kinds, row_of, field, found, stopped, read_here, read_record, message_here, record_message}
use Rattle.script.specs.Body.{made, call_in}
use Rattle.script.proofs.Rows.{Known, KnownParts, fields_fit, made-of-three, call-agrees}

-- a kind's row and the bytes behind the kind, as the definitions read them
abbrev record_of : ℕ → List ℕ → Option Row → Result Record Stop
record_of at body row =
    elim row [
      | none ↦ stopped at
      | some r ↦
          elim (leb r.body (length body))
          [ true ↦ found (r.call (field body)) (record { at = suc (at + r.body) }) | false ↦ stopped at ]
    ]

abbrev message_of : List ℕ → Option Row → List ℕ
message_of body row = elim row [ none ↦ [] | some r ↦ take (r.body - 4 * r.fields) (drop (4 * r.fields) body) ]

abbrev pub three : List ℕ → List ℤ
three body = field body 0 ∷ field body 1 ∷ field body 2 ∷ []

-- a field within the first n bytes of a body
pub field-take : (body : List ℕ) (n i : ℕ) → 4 * i + 4 ≤ n → field (take n body) i ≡ field body i
unfolding field
field-take body n i h =
    rw (get_or-take n body (4 * i) 0 (omega arith), get_or-take n body (4 * i + 1) 0 (omega arith), get_or-take n body (4 * i + 2) 0 (omega arith), get_or-take n body (4 * i + 3) 0 (omega arith))

module _ (at kind : ℕ) (body : List ℕ) where
  pub unknown-here : row_of kind ≡ none → read_here at (kind ∷ body) ≡ stopped at
  unfolding read_here
  unknown-here e = ap (record_of at body) e

  pub no-message-here : row_of kind ≡ none → message_here (kind ∷ body) ≡ []
  unfolding message_here
  no-message-here e = ap (message_of body) e

  module _ (r : Row) (e : row_of kind ≡ some r) where
    pub cut-here : length body < r.body → read_here at (kind ∷ body) ≡ stopped at
    unfolding read_here
    cut-here h = ap (record_of at body) e ∙ rw (lt-leb r.body (length body) h, record_of)

    pub whole_here : r.body ≤ length body → read_here at (kind ∷ body) ≡ found (r.call (field body)) (record { at = suc (at + r.body) })
    unfolding read_here
    whole_here h = ap (record_of at body) e ∙ rw (le-leb r.body (length body) h, record_of)

    pub message-here : message_here (kind ∷ body) ≡ take (r.body - 4 * r.fields) (drop (4 * r.fields) body)
    unfolding message_here
    message-here = ap (message_of body) e

    -- the call is made of three fields of the record's own body
    pub whole : r.body ≤ length body
        → found (call_in kinds kind (three (take r.body body))) (record { at = suc (at + r.body) }) ≡ read_here at (kind ∷ body)
    unfolding call_in row_of
    whole h =
        let f = field (take r.body body) in
        let c : call_in kinds kind (three (take r.body body)) ≡ r.call (field body) =
        ap (λ (o : Option Row). made o (three (take r.body body))) e
        ∙ made-of-three kind r e f
        ∙ call-agrees kind r e f (field body) (λ i k. field-take body r.body i (omega (arith, fields_fit kind r e)))
        in
        ap (λ (x : Call). found x (record { at = suc (at + r.body) })) c ∙ sym (whole_here h)

-- what is known where a record is read
pub record WasRead (at kind : ℕ) (body : List ℕ) (call : Call) (next : Cursor) : Type 0 where
  pub row : Row
  pub is : row_of kind ≡ some row
  pub fits : row.body ≤ length body
  pub made : row.call (field body) ≡ call
  pub end : suc (at + row.body) ≡ next.at

module _ (at kind : ℕ) (body : List ℕ) (call : Call) (next : Cursor) where
  abbrev Found : Option Row → Type 0
  Found row = record_of at body row ≡ found call next → row_of kind ≡ row → WasRead at kind body call next

  fitted : (r : Row) (fits : Bool) → leb r.body (length body) ≡ fits
      → elim fits [ true ↦ found (r.call (field body)) (record { at = suc (at + r.body) }) | false ↦ stopped at ] ≡ found call next
      → row_of kind ≡ some r → WasRead at kind body call next
  fitted r true h e is =
      let same : ◌≡◌ {A = Record} (record { call = r.call (field body); next = record { at = suc (at + r.body) } }) (record { call = call; next = next }) = cc in
      record {
        row = r;
        is = is;
        fits = leb-true r.body (length body) h;
        made = ap (λ (x : Record). x.call) same;
        end = ap (λ (x : Record). x.next.at) same;
      }
  fitted r false h e is = absurd (let z : ◌≡◌ {A = ℕ} 0 1 = cc in omega arith)

  by-row : (row : Option Row) → Found row
  by-row none e is = absurd (let z : ◌≡◌ {A = ℕ} 0 1 = cc in omega arith)
  by-row (some r) e is = fitted r (leb r.body (length body)) refl e is

  pub was_read : read_here at (kind ∷ body) ≡ found call next → WasRead at kind body call next
  unfolding read_here
  was_read e = by-row (row_of kind) e refl

-- a script's bytes from a place on
module _ (script : List ℕ) (at : ℕ) where
  pub stop-at-end : length script ≤ at → read_record script at ≡ stopped at
  unfolding read_record read_here
  stop-at-end h = rw (drop_of_length-le script {i = at} h)

  pub no-message-at-end : length script ≤ at → record_message script at ≡ []
  unfolding record_message message_here
  no-message-at-end h = rw (drop_of_length-le script {i = at} h)

  module _ (h : at < length script) where
    from-here : drop at script ≡ script ! at ∷ drop (at + 1) script
    from-here = rw add-one (drop-cons script at 0 h)

    pub read_at : read_record script at ≡ read_here at (script ! at ∷ drop (at + 1) script)
    unfolding read_record
    read_at = ap (read_here at) from-here

    pub message-at : record_message script at ≡ message_here (script ! at ∷ drop (at + 1) script)
    unfolding record_message
    message-at = ap message_here from-here

-- a kind of the table at a place: its body is cut, or the record is whole
module _ (script : List ℕ) (at n : ℕ) (h : at < length script) (known : Known (row_of (script ! at)) n) where
  behind : length (drop (at + 1) script) ≡ length script - (at + 1)
  behind = length-drop (at + 1) script

  pub cut_at : length script - (at + 1) < n → read_record script at ≡ stopped at
  cut_at less =
      read_at script at h ∙ cut-here at (script ! at) (drop (at + 1) script) known.row known.is (omega (arith, known.body, behind))

  -- the call made of fields of the n bytes behind the kind
  pub whole-at : n ≤ length script - (at + 1) → (m : ℕ) → m ≡ n → (call : Call)
      → call ≡ call_in kinds (script ! at) (three (take m (drop (at + 1) script)))
      → found call (record { at = at + 1 + n }) ≡ read_record script at
  whole-at fits m e call made =
      let r = known.row in
      let end : at + 1 + n ≡ suc (at + r.body) = omega (arith, known.body) in
      let size : m ≡ r.body = e ∙ sym known.body in
      ap (λ (x : ℕ). found call (record { at = x })) end
      ∙ ap (λ (x : Call). found x (record { at = suc (at + r.body) }))
      (made ∙ ap (λ (x : ℕ). call_in kinds (script ! at) (three (take x (drop (at + 1) script)))) size)
      ∙ whole at (script ! at) (drop (at + 1) script) r known.is (omega (arith, known.body, behind))
      ∙ sym (read_at script at h)

-- the message lies behind the fields
pub message-of-parts : (script : List ℕ) (at f m : ℕ) → at < length script → KnownParts (row_of (script ! at)) f m
    → take m (drop (at + 1 + f) script) ≡ record_message script at
message-of-parts script at f m h known =
    sym (message-at script at h
    ∙ message-here at (script ! at) (drop (at + 1) script) known.row known.is
    ∙ ap (λ (x : ℕ). take x (drop (4 * known.row.fields) (drop (at + 1) script))) known.message
    ∙ ap (take m) (drop-drop (4 * known.row.fields) (at + 1) script ∙ ap (λ (x : ℕ). drop (at + 1 + x) script) known.fields))
