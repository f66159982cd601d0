-- The round trip, both ways: what is written reads back as the call, and a record that was read writes back to the same bytes.
-- Assumes nothing.
use Prim.Native.Nat.{ℕ, zero, suc, ◌+◌, ◌*◌, ◌-◌, ◌/◌, ◌%◌, ◌^◌, ◌≤◌, ◌<◌}
use native.Mathlib.Nat.{not-suc-le-zero, le_of_suc-le-suc, div-div-eq-div-mul, mod-eq_of_lt, div-eq_of_lt, add-mul-mod_self_right, add-mul-div_right}
use native.Mathlib.Omega.{arith}
use mathlib.Core.Path.{◌≡◌, ◌∙◌, refl, sym, ap}
use mathlib.Core.List.{List, [], ◌∷◌, ◌++◌, map, append_assoc}
use lib.ListN.{length, take, drop, length-append, length-drop, take-append-drop}
use lib.Seq.{take_at, drop_at, take-add, length-take-le, get_or-drop}
use lib.Dec.{lit<}
use lib.IntN.{ℤ, pos, negsuc}
use lib.Signed.{mag}
use Rattle.model.proofs.NumberLaws.{number4-bytes4}
use Rattle.model.specs.declared.call.Call.{Call}
use Rattle.model.specs.declared.call.Cursor.{Cursor}
use Rattle.std.specs.Prelude.{Ok}
use Rattle.model.specs.Lists.{◌!◌, joined, count_from}
use Rattle.model.specs.Code.{bytes4, number4, signed, bits, code_bytes}
use Rattle.model.specs.Record.{Fit, FieldsFit, row_of, field, found, read_here, read_record, message_here, record_message, kind_of, fields_of, record_bytes}
use Rattle.script.specs.Body.{field_at}
use Rattle.model.specs.Message.{over}
use Rattle.script.specs.Write.{message_length, Writes}
use Rattle.script.proofs.Signed.{signed-bits, bits-signed}
use Rattle.script.proofs.Rows.{row-kind, fields_fit, kind-made, fields_made, call-agrees}
use Rattle.script.proofs.Reading.{whole_here, message-here, WasRead, was_read}
use Rattle.script.proofs.Writing.{CallRow, call-row, length_fields, record-length, message-length, written, WasWritten, was-written}

-- every entry is a byte
abbrev pub Bytes : List ℕ → Type 0
Bytes bytes = (i : ℕ) → bytes ! i < 256

-- one field, from the number and from the bytes
bits_fit : (z : ℤ) → mag z < 2 ^ 31 → bits z < 2 ^ 32
bits_fit (pos n) h = omega arith
bits_fit (negsuc n) h = omega arith

-- a digit and what is above it
digit : (x q : ℕ) → x < 256 → ((x + q * 256) % 256 ≡ x) × ((x + q * 256) / 256 ≡ q)
digit x q h =
    let e : x / 256 ≡ 0 = div-eq_of_lt h in
    (add-mul-mod_self_right x q 256 ∙ mod-eq_of_lt h, add-mul-div_right x q (lit< tt) ∙ omega arith)

bytes-number : (a b c d : ℕ) → a < 256 → b < 256 → c < 256 → d < 256 → bytes4 (number4 a b c d) ≡ a ∷ b ∷ c ∷ d ∷ []
bytes-number a b c d ha hb hc hd =
    let n = number4 a b c d in
    let n₁ : ℕ = b + c * 256 + d * 65536 in
    let n₂ : ℕ = c + d * 256 in
    let p₀ : a + n₁ * 256 ≡ n = omega arith in
    let p₁ : b + n₂ * 256 ≡ n₁ = omega arith in
    let q₁ : n / 256 ≡ n₁ = rw p₀ at (digit a n₁ ha).1 in
    let q₂ : n / 65536 ≡ n₂ = sym (div-div-eq-div-mul n 256 256) ∙ ap (λ (x : ℕ). x / 256) q₁ ∙ rw p₁ at (digit b n₂ hb).1 in
    let q₃ : n / 16777216 ≡ d = sym (div-div-eq-div-mul n 65536 256) ∙ ap (λ (x : ℕ). x / 256) q₂ ∙ (digit c d hc).1 in
    let e₀ : n % 256 ≡ a = rw p₀ at (digit a n₁ ha).0 in
    let e₁ : n / 256 % 256 ≡ b = ap (λ (x : ℕ). x % 256) q₁ ∙ rw p₁ at (digit b n₂ hb).0 in
    let e₂ : n / 65536 % 256 ≡ c = ap (λ (x : ℕ). x % 256) q₂ ∙ (digit c d hc).0 in
    let e₃ : n / 16777216 % 256 ≡ d = ap (λ (x : ℕ). x % 256) q₃ ∙ mod-eq_of_lt hd in
    cc

pub code_reads : (z : ℤ) → mag z < 2 ^ 31 → (rest : List ℕ) → field (code_bytes z ++ rest) 0 ≡ z
unfolding field
code_reads z h rest = ap signed (number4-bytes4 (bits z) (bits_fit z h)) ∙ signed-bits z h

pub field-writes : (a b c d : ℕ) (rest : List ℕ) → a < 256 → b < 256 → c < 256 → d < 256
    → code_bytes (field (a ∷ b ∷ c ∷ d ∷ rest) 0) ≡ a ∷ b ∷ c ∷ d ∷ []
unfolding field
field-writes a b c d rest ha hb hc hd =
    ap bytes4 (bits-signed (number4 a b c d) (omega arith)) ∙ bytes-number a b c d ha hb hc hd

-- the fields behind the first are those of the bytes behind it
field_next : (a b c d : ℕ) (rest : List ℕ) (i : ℕ) → field (a ∷ b ∷ c ∷ d ∷ rest) (suc i) ≡ field rest i
unfolding field
field_next a b c d rest i =
    let e₀ : 4 * suc i ≡ suc (suc (suc (suc (4 * i)))) = omega arith in
    let e₁ : 4 * suc i + 1 ≡ suc (suc (suc (suc (4 * i + 1)))) = omega arith in
    let e₂ : 4 * suc i + 2 ≡ suc (suc (suc (suc (4 * i + 2)))) = omega arith in
    let e₃ : 4 * suc i + 3 ≡ suc (suc (suc (suc (4 * i + 3)))) = omega arith in
    rw (e₁, e₂, e₃, e₀)

-- a list of fields, from the numbers and from the bytes
fields_read : (fs : List ℤ) (rest : List ℕ) (i : ℕ) → Fit fs → i < length fs → field (joined (map code_bytes fs) ++ rest) i ≡ field_at fs i
fields_read [] rest i fit h = absurd (not-suc-le-zero h)
fields_read (z ∷ zs) rest zero fit h = code_reads z fit.0 (joined (map code_bytes zs) ++ rest)
fields_read (z ∷ zs) rest (suc i) fit h =
    field_next _ _ _ _ (joined (map code_bytes zs) ++ rest) i ∙ fields_read zs rest i fit.1 (le_of_suc-le-suc h)

map-shift : (f g : ℕ → ℤ) (a n : ℕ) → ((i : ℕ) → f (suc i) ≡ g i) → map f (count_from (suc a) n) ≡ map g (count_from a n)
map-shift f g a zero e = refl
map-shift f g a (suc n) e =
    ap (λ (z : ℤ). z ∷ map f (count_from (suc (suc a)) n)) (e a) ∙ ap (λ (zs : List ℤ). g a ∷ zs) (map-shift f g (suc a) n e)

fields-write : (n : ℕ) (body : List ℕ) → Bytes body → 4 * n ≤ length body
    → joined (map code_bytes (map (field body) (count_from 0 n))) ≡ take (4 * n) body
fields-write zero body bytes h = refl
fields-write (suc n) [] bytes h = absurd (omega arith)
fields-write (suc n) (a ∷ []) bytes h = absurd (omega arith)
fields-write (suc n) (a ∷ b ∷ []) bytes h = absurd (omega arith)
fields-write (suc n) (a ∷ b ∷ c ∷ []) bytes h = absurd (omega arith)
fields-write (suc n) (a ∷ b ∷ c ∷ d ∷ rest) bytes h =
    let body = a ∷ b ∷ c ∷ d ∷ rest in
    let e : suc (suc (suc (suc (4 * n)))) ≡ 4 * suc n = omega arith in
    let more : (i : ℕ) → field body (suc i) ≡ field rest i = field_next a b c d rest in
    ap (λ (l : List ℕ). l ++ joined (map code_bytes (map (field body) (count_from 1 n))))
    (field-writes a b c d rest (bytes 0) (bytes 1) (bytes 2) (bytes 3))
    ∙ ap (λ (zs : List ℤ). a ∷ b ∷ c ∷ d ∷ joined (map code_bytes zs)) (map-shift (field body) (field rest) 0 n more)
    ∙ ap (λ (l : List ℕ). a ∷ b ∷ c ∷ d ∷ l) (fields-write n rest (λ i. bytes (suc (suc (suc (suc i))))) (omega arith))
    ∙ ap (λ (k : ℕ). take k body) e

-- what is written reads back as the call, with the message that was handed over, whatever stands behind it
module _ (at : ℕ) (c : Call) (message rest : List ℕ) (fit : FieldsFit c) (size : length message ≡ message_length (kind_of c)) where
  abbrev fields : List ℕ
  fields = joined (map code_bytes (fields_of c))

  abbrev its-row : CallRow c (row_of (kind_of c))
  its-row = call-row c

  length-is : length fields ≡ 4 * its-row.row.fields
  length-is = length_fields (fields_of c) ∙ ap (λ (n : ℕ). 4 * n) (sym its-row.fields)

  body_is : its-row.row.body ≡ length fields + length message
  body_is =
      let m = message-length (kind_of c) its-row.row its-row.is in
      omega (arith, size, m, length-is, fields_fit (kind_of c) its-row.row its-row.is)

  split : record_bytes c message ++ rest ≡ kind_of c ∷ (fields ++ (message ++ rest))
  unfolding record_bytes
  split = ap (λ (l : List ℕ). kind_of c ∷ l) (append_assoc fields message rest)

  pub written-reads : read_here at (record_bytes c message ++ rest) ≡ found c (record { at = at + length (record_bytes c message) })
  written-reads =
      let r = its-row.row in
      let body = fields ++ (message ++ rest) in
      let end : suc (at + r.body) ≡ at + length (record_bytes c message) = omega (arith, body_is, length-is, its-row.fields, record-length c message) in
      let enough : r.body ≤ length body = omega (arith, body_is, length-append fields (message ++ rest), length-append message rest) in
      let call : r.call (field body) ≡ c =
      call-agrees (kind_of c) r its-row.is (field body) (field_at (fields_of c))
      (λ i h. fields_read (fields_of c) (message ++ rest) i fit (omega (arith, h, its-row.fields)))
      ∙ its-row.made
      in
      ap (read_here at) split
      ∙ whole_here at (kind_of c) body r its-row.is enough
      ∙ ap (λ (x : Call). found x (record { at = suc (at + r.body) })) call
      ∙ ap (λ (n : ℕ). found c (record { at = n })) end

  pub message-reads : message_here (record_bytes c message ++ rest) ≡ message
  message-reads =
      let r = its-row.row in
      let n : r.body - 4 * r.fields ≡ length message = omega (arith, body_is, length-is) in
      ap message_here split
      ∙ message-here at (kind_of c) (fields ++ (message ++ rest)) r its-row.is
      ∙ ap (take (r.body - 4 * r.fields)) (drop_at fields (message ++ rest) (4 * r.fields) length-is)
      ∙ take_at message rest (r.body - 4 * r.fields) (sym n)

-- a record that was read writes back to the bytes that it was read from
kind-of : (at kind : ℕ) (body : List ℕ) (c : Call) (next : Cursor) → WasRead at kind body c next → kind_of c ≡ kind
kind-of at kind body c next w =
    ap kind_of (sym w.made) ∙ kind-made kind w.row w.is (field body) ∙ row-kind kind w.row w.is

pub read-writes : (at : ℕ) (bytes : List ℕ) (c : Call) (next : Cursor) → Bytes bytes → read_here at bytes ≡ found c next
    → record_bytes c (message_here bytes) ≡ take (next.at - at) bytes
unfolding read_here record_bytes
read-writes at [] c next all e = absurd (let z : ◌≡◌ {A = ℕ} 0 1 = cc in omega arith)
read-writes at (kind ∷ body) c next all e =
    let w = was_read at kind body c next e in
    let r = w.row in
    let fit = fields_fit kind r w.is in
    let k : kind_of c ≡ kind = kind-of at kind body c next w in
    let fs : fields_of c ≡ map (field body) (count_from 0 r.fields) = ap fields_of (sym w.made) ∙ fields_made kind r w.is (field body) in
    let f : joined (map code_bytes (fields_of c)) ≡ take (4 * r.fields) body =
    ap (λ (zs : List ℤ). joined (map code_bytes zs)) fs ∙ fields-write r.fields body (λ i. all (suc i)) (omega (arith, fit, w.fits))
    in
    let m : message_here (kind ∷ body) ≡ take (r.body - 4 * r.fields) (drop (4 * r.fields) body) = message-here at kind body r w.is in
    let n : 4 * r.fields + (r.body - 4 * r.fields) ≡ r.body = omega (arith, fit) in
    let end : suc r.body ≡ next.at - at = omega (arith, w.end) in
    ap (λ (x : ℕ). x ∷ joined (map code_bytes (fields_of c)) ++ message_here (kind ∷ body)) k
    ∙ ap (λ (l : List ℕ). kind ∷ l ++ message_here (kind ∷ body)) f
    ∙ ap (λ (l : List ℕ). kind ∷ take (4 * r.fields) body ++ l) m
    ∙ ap (λ (l : List ℕ). kind ∷ l) (sym (take-add (4 * r.fields) (r.body - 4 * r.fields) body) ∙ ap (λ (x : ℕ). take x body) n)
    ∙ ap (λ (x : ℕ). take x (kind ∷ body)) end

-- The same of an area and of a script, by the contracts of the functions: what `write_record` has written, `read_record` and
-- `message` give back; and a record that they read, `write_record` writes to its own place with nothing changed.
from_place : (area : List ℕ) (at : ℕ) (bytes : List ℕ) → at ≤ length area → drop at (over area at bytes) ≡ bytes ++ drop (at + length bytes) area
unfolding over
from_place area at bytes h =
    ap (drop at) (append_assoc (take at area) bytes (drop (at + length bytes) area))
    ∙ drop_at (take at area) (bytes ++ drop (at + length bytes) area) at (length-take-le at area h)

module _ (area : List ℕ) (at : ℕ) (c : Call) (message after : List ℕ) (next : ℕ) (fit : FieldsFit c) (w : Writes area at c message after (Ok next)) where
  was : WasWritten area at c message after next
  was = was-written area at c message after next w

  from : drop at after ≡ record_bytes c message ++ drop (at + length (record_bytes c message)) area
  from = ap (drop at) was.is ∙ from_place area at (record_bytes c message) (omega (arith, was.fits))

  pub write-then-read : read_record after at ≡ found c (record { at = next })
  unfolding read_record
  write-then-read =
      ap (read_here at) from
      ∙ written-reads at c message (drop (at + length (record_bytes c message)) area) fit was.size
      ∙ ap (λ (n : ℕ). found c (record { at = n })) was.end

  pub write-then-message : record_message after at ≡ message
  unfolding record_message
  write-then-message =
      ap message_here from ∙ message-reads at c message (drop (at + length (record_bytes c message)) area) fit was.size

-- how long a record that was read is, and its message
record Lengths (at : ℕ) (bytes : List ℕ) (c : Call) (next : Cursor) : Type 0 where
  past : at < next.at
  enough : next.at - at ≤ length bytes
  size : length (message_here bytes) ≡ message_length (kind_of c)

lengths : (at : ℕ) (bytes : List ℕ) (c : Call) (next : Cursor) → read_here at bytes ≡ found c next → Lengths at bytes c next
unfolding read_here
lengths at [] c next e = absurd (let z : ◌≡◌ {A = ℕ} 0 1 = cc in omega arith)
lengths at (kind ∷ body) c next e =
    let w = was_read at kind body c next e in
    let r = w.row in
    let k : kind_of c ≡ kind = kind-of at kind body c next w in
    let m = message-length kind r w.is in
    let enough : r.body - 4 * r.fields ≤ length (drop (4 * r.fields) body) = omega (arith, w.fits, length-drop (4 * r.fields) body) in
    let t = length-take-le (r.body - 4 * r.fields) (drop (4 * r.fields) body) enough in
    record {
      past = omega (arith, w.end);
      enough = omega (arith, w.end, w.fits);
      size = ap length (message-here at kind body r w.is) ∙ t ∙ sym m ∙ ap message_length (sym k);
    }

again : (script : List ℕ) (at n : ℕ) → n ≤ length (drop at script) → over script at (take n (drop at script)) ≡ script
unfolding over
again script at n h =
    ap (λ (k : ℕ). take at script ++ take n (drop at script) ++ drop (at + k) script) (length-take-le n (drop at script) h)
    ∙ ap (λ (l : List ℕ). l ++ drop (at + n) script) (sym (take-add at n script))
    ∙ take-append-drop (at + n) script

module _ (script : List ℕ) (at : ℕ) (c : Call) (next : Cursor) (all : Bytes script) (e : read_record script at ≡ found c next) where
  pub read-then-write : Writes script at c (record_message script at) script (Ok next.at)
  unfolding read_record record_message
  read-then-write =
      let bytes = drop at script in
      let m = message_here bytes in
      let l = lengths at bytes c next e in
      let b : record_bytes c m ≡ take (next.at - at) bytes = read-writes at bytes c next (λ i. rw (get_or-drop at script i 0) (all (at + i))) e in
      let n : length (record_bytes c m) ≡ next.at - at = ap length b ∙ length-take-le (next.at - at) bytes l.enough in
      let end : at + length (record_bytes c m) ≡ next.at = omega (arith, n, l.past) in
      let same : over script at (record_bytes c m) ≡ script = ap (over script at) b ∙ again script at (next.at - at) l.enough in
      let w = written script at c m l.size (omega (arith, n, l.past, l.enough, length-drop at script)) in
      record { answer = ap Ok (sym end) ∙ w.answer; area = sym same ∙ w.area }
