-- Laws of writing: a call's row, a record's bytes, and what becomes of a record. Assumes nothing.
use Prim.Native.Nat.{ℕ, suc, ◌+◌, ◌*◌, ◌-◌, ◌≤◌, ◌<◌}
use native.Mathlib.Omega.{arith}
use mathlib.Core.Path.{◌≡◌, ◌∙◌, refl, sym, ap}
use mathlib.Core.Bool.{Bool, true, false, cond}
use mathlib.Core.List.{List, [], ◌∷◌, ◌++◌, map}
use mathlib.Core.Option.{Option, none, some}
use lib.ListN.{length, take, length-append}
use lib.Dec.{eqb}
use lib.IntN.{ℤ}
use borrow.Author.Tests.{eq-eqb, ne_eqb, le-leb, lt-leb, eqb-true, leb-true}
use Rattle.model.specs.declared.call.Call.{Call}
use Rattle.model.specs.declared.call.Call.TheVariants.{CreTsk, DelTsk, StaTsk, ExtTsk, TerTsk, ChgPri, CreMtx, DelMtx, LocMtx, UnlMtx, CreMbf, DelMbf, SndMbf, RcvMbf, CreMpf, DelMpf, GetMpf, RelMpf, Tick}
use Rattle.model.specs.Lists.{joined}
use Rattle.model.specs.Code.{code_bytes}
use Rattle.model.specs.Record.{Row, kinds, row_of, kind_of, fields_of, record_bytes}
use Rattle.std.specs.Prelude.{Some, None, Result, Ok, Err}
use Rattle.script.specs.declared.writer.WriteError.{WriteError}
use Rattle.script.specs.declared.writer.WriteError.TheVariants.{NoRoom, WrongMessage}
use Rattle.script.specs.Place.{room, Appends}
use Rattle.model.specs.Message.{over}
use Rattle.script.specs.declared.body.Body.{Body}
use Rattle.script.specs.Body.{field_at, body_parts}
use Rattle.script.specs.Write.{message_length, wrote, rewritten, Writes, call_head, head_bytes}
use Rattle.script.proofs.Rows.{none-is-not-some, KnownParts, row-of-parts, row-of-no-parts, fields-few}
use Rattle.script.proofs.Appending.{placed-room, next-room}

-- every call has a row, which counts its fields and makes the call of them
abbrev Right : Call → Option Row → Type 0
Right c none = ⊥
Right c (some r) = (r.fields ≡ length (fields_of c)) × (r.call (field_at (fields_of c)) ≡ c)

right : (c : Call) → Right c (row_of (kind_of c))
unfolding kinds row_of kind_of fields_of
right (CreTsk a) = (refl, refl)
right (DelTsk a) = (refl, refl)
right (StaTsk a) = (refl, refl)
right ExtTsk = (refl, refl)
right (TerTsk a) = (refl, refl)
right (ChgPri a b) = (refl, refl)
right (CreMtx a b) = (refl, refl)
right (DelMtx a) = (refl, refl)
right (LocMtx a b) = (refl, refl)
right (UnlMtx a) = (refl, refl)
right (CreMbf a b c) = (refl, refl)
right (DelMbf a) = (refl, refl)
right (SndMbf a b c) = (refl, refl)
right (RcvMbf a b) = (refl, refl)
right (CreMpf a b c) = (refl, refl)
right (DelMpf a) = (refl, refl)
right (GetMpf a b) = (refl, refl)
right (RelMpf a b) = (refl, refl)
right Tick = (refl, refl)

pub record CallRow (c : Call) (found : Option Row) : Type 0 where
  pub row : Row
  pub is : found ≡ some row
  pub fields : row.fields ≡ length (fields_of c)
  pub made : row.call (field_at (fields_of c)) ≡ c

named : (c : Call) (found : Option Row) → Right c found → CallRow c found
named c none h = absurd h
named c (some r) h = record { row = r; is = refl; fields = h.0; made = h.1 }

pub call-row : (c : Call) → CallRow c (row_of (kind_of c))
call-row c = named c (row_of (kind_of c)) (right c)

pub few : (c : Call) → length (fields_of c) ≤ 3
few c = let r = call-row c in omega (arith, r.fields, fields-few (kind_of c) r.row r.is)

-- the first bytes of three fields, as many as there are fields
three : (fs : List ℤ) → length fs ≤ 3
    → take (4 * length fs) (code_bytes (field_at fs 0) ++ code_bytes (field_at fs 1) ++ code_bytes (field_at fs 2)) ≡ joined (map code_bytes fs)
three [] h = refl
three (a ∷ []) h = refl
three (a ∷ b ∷ []) h = refl
three (a ∷ b ∷ c ∷ []) h = refl
three (a ∷ b ∷ c ∷ d ∷ fs) h = absurd (omega arith)

pub head-begins : (c : Call) → take (1 + 4 * length (fields_of c)) (head_bytes (call_head c)) ≡ kind_of c ∷ joined (map code_bytes (fields_of c))
unfolding call_head
head-begins c =
    let e : 1 + 4 * length (fields_of c) ≡ suc (4 * length (fields_of c)) = omega arith in
    ap (λ (n : ℕ). take n (head_bytes (call_head c))) e ∙ ap (λ (bytes : List ℕ). kind_of c ∷ bytes) (three (fields_of c) (few c))

pub length_fields : (fs : List ℤ) → length (joined (map code_bytes fs)) ≡ 4 * length fs
length_fields [] = refl
length_fields (f ∷ fs) = omega (arith, length_fields fs)

pub record-length : (c : Call) (message : List ℕ) → length (record_bytes c message) ≡ 1 + 4 * length (fields_of c) + length message
unfolding record_bytes
record-length c message =
    omega (arith, length-append (joined (map code_bytes (fields_of c))) message, length_fields (fields_of c))

-- the length of the message, from the row
abbrev length_of : Option Row → ℕ
length_of found = elim found [ none ↦ 0 | some r ↦ r.body - 4 * r.fields ]

pub message-length : (kind : ℕ) (r : Row) → row_of kind ≡ some r → message_length kind ≡ r.body - 4 * r.fields
unfolding message_length
message-length kind r e = ap length_of e

-- the three answers
module _ (area : List ℕ) (at : ℕ) (c : Call) (message : List ℕ) where
  abbrev n : ℕ
  n = length (record_bytes c message)

  abbrev sized : Bool → Result ℕ WriteError
  sized right = elim right [ true ↦ cond (room (length area) at n) (Ok (at + n)) (Err NoRoom) | false ↦ Err WrongMessage ]

  abbrev after : Result ℕ WriteError → List ℕ
  after r = elim r [ Ok n ↦ over area at (record_bytes c message) | Err e ↦ area ]

  answered : (r : Result ℕ WriteError) → wrote area at c message ≡ r → Writes area at c message (after r) r
  unfolding rewritten
  answered r e = record { answer = sym e; area = ap after (sym e) }

  pub wrong : (length message ≡ message_length (kind_of c) → ⊥) → Writes area at c message area (Err WrongMessage)
  unfolding wrote
  wrong h = answered (Err WrongMessage) (ap sized (ne_eqb (length message) (message_length (kind_of c)) h))

  module _ (e : length message ≡ message_length (kind_of c)) where
    by-room : (has : Bool) → room (length area) at n ≡ has → wrote area at c message ≡ cond has (Ok (at + n)) (Err NoRoom)
    unfolding wrote
    by-room has p =
        ap sized (eq-eqb (length message) (message_length (kind_of c)) e) ∙ ap (λ (b : Bool). cond b (Ok (at + n)) (Err NoRoom)) p

    pub no_room : length area < at + n → Writes area at c message area (Err NoRoom)
    no_room h = answered (Err NoRoom) (by-room false (lt-leb (at + n) (length area) h))

    pub written : at + n ≤ length area → Writes area at c message (over area at (record_bytes c message)) (Ok (at + n))
    written h = answered (Ok (at + n)) (by-room true (le-leb (at + n) (length area) h))

    -- what an append of the whole record leaves
    pub appended : (after : List ℕ) (next : ℕ) → at + n ≤ length area → Appends area at (record_bytes c message) after next
        → Writes area at c message after (Ok next)
    appended after next h p =
        let w = written h in
        record {
          answer = ap Ok (p.place ∙ next-room area at (record_bytes c message) h) ∙ w.answer;
          area = p.area ∙ placed-room area at (record_bytes c message) h ∙ w.area;
        }

-- what is known where a record is written
pub record WasWritten (area : List ℕ) (at : ℕ) (c : Call) (message after : List ℕ) (next : ℕ) : Type 0 where
  pub size : length message ≡ message_length (kind_of c)
  pub fits : at + length (record_bytes c message) ≤ length area
  pub end : at + length (record_bytes c message) ≡ next
  pub is : after ≡ over area at (record_bytes c message)

module _ (area : List ℕ) (at : ℕ) (c : Call) (message after' : List ℕ) (next : ℕ) (is : after' ≡ over area at (record_bytes c message)) where
  abbrev n' : ℕ
  n' = length (record_bytes c message)

  roomy : (has : Bool) → room (length area) at n' ≡ has → length message ≡ message_length (kind_of c)
      → Ok next ≡ cond has (Ok (at + n')) (Err NoRoom) → WasWritten area at c message after' next
  roomy true h size e = record { size = size; fits = leb-true (at + n') (length area) h; end = cc; is = is }
  roomy false h size e = absurd (let z : ◌≡◌ {A = ℕ} 0 1 = cc in omega arith)

  right-size : (right : Bool) → eqb (length message) (message_length (kind_of c)) ≡ right → Ok next ≡ sized area at c message right
      → WasWritten area at c message after' next
  right-size true h e = roomy (room (length area) at n') refl (eqb-true (length message) (message_length (kind_of c)) h) e
  right-size false h e = absurd (let z : ◌≡◌ {A = ℕ} 0 1 = cc in omega arith)

pub was-written : (area : List ℕ) (at : ℕ) (c : Call) (message after' : List ℕ) (next : ℕ)
    → Writes area at c message after' (Ok next) → WasWritten area at c message after' next
unfolding wrote rewritten
was-written area at c message after' next w =
    right-size area at c message after' next (w.area ∙ ap (after area at c message) (sym w.answer)) _ refl w.answer

some_inj : {r x : Row} → ◌≡◌ {A = Option Row} (some r) (some x) → r ≡ x
some_inj e = cc

-- every call's kind is in the table
pub in-table : (c : Call) → body_parts (kind_of c) ≡ None → ⊥
in-table c e = let r = call-row c in none-is-not-some r.row (sym (row-of-no-parts _ e) ∙ r.is)

-- the parts of a call's body, in terms of the call
module _ (c : Call) (b : Body) (known : body_parts (kind_of c) ≡ Some b) where
  parts : KnownParts (row_of (kind_of c)) b.fields b.message
  parts = row-of-parts (kind_of c) b known

  pub fields-of-call : b.fields ≡ 4 * length (fields_of c)
  fields-of-call =
      let r = call-row c in
      let e : parts.row ≡ r.row = some_inj (sym parts.is ∙ r.is) in
      sym parts.fields ∙ ap (λ (x : Row). 4 * x.fields) e ∙ ap (λ (x : ℕ). 4 * x) r.fields

  pub fields-short : b.fields ≤ 12
  fields-short = omega (arith, fields-of-call, few c)

  pub message-of-call : b.message ≡ message_length (kind_of c)
  message-of-call = sym (message-length (kind_of c) parts.row parts.is ∙ parts.message)

  -- the record is as many bytes of the head as its fields have, and the message
  pub parts-length : (message : List ℕ) → 1 + b.fields + length message ≡ length (record_bytes c message)
  parts-length message = omega (arith, fields-of-call, record-length c message)

  pub parts-bytes : (message : List ℕ) → take (1 + b.fields) (head_bytes (call_head c)) ++ message ≡ record_bytes c message
  unfolding record_bytes
  parts-bytes message =
      ap (λ (bytes : List ℕ). bytes ++ message)
      (ap (λ (n : ℕ). take (1 + n) (head_bytes (call_head c))) fields-of-call ∙ head-begins c)
