-- 01, "The script and the log": a record is one byte of kind, then a body whose length the kind fixes. One table of kinds serves
-- reader and writer.
use Rattle.std.specs.Prelude.{ℕ, suc, ◌+◌, ◌*◌, ◌-◌, ◌^◌, ◌<◌, true, false, List, [], ◌∷◌, ◌++◌, map, length, take, drop, ℤ, eqb, leb, Some, None, Result, Ok, Err}
use Rattle.std.specs.Prelude as code
use Rattle.std.proofs.Math.Option.{Option, none, some}
use Rattle.std.specs.Int.Signed.{mag}
use Rattle.model.specs.declared.call.Call.{Call}
use Rattle.model.specs.declared.call.Call.TheVariants.{CreTsk, DelTsk, StaTsk, ExtTsk, TerTsk, ChgPri, CreMtx, DelMtx, LocMtx, UnlMtx, CreMbf, DelMbf, SndMbf, RcvMbf, CreMpf, DelMpf, GetMpf, RelMpf, Tick}
use Rattle.model.specs.declared.call.Cursor.{Cursor}
use Rattle.model.specs.declared.call.Record.{Record}
use Rattle.model.specs.declared.call.Stop.{Stop}
use Rattle.model.specs.Lists.{joined, ◌!◌}
use Rattle.model.specs.Code.{number4, signed, code_bytes}

-- A row of the table: the kind, the length of the body, how many fields of 4 bytes the body begins with, and the call made of
-- them. What follows the fields is the message.
pub record Row : Type 0 where
  pub kind : ℕ
  pub body : ℕ
  pub fields : ℕ
  pub call : (ℕ → ℤ) → Call

abbrev pub row : ℕ → ℕ → ℕ → ((ℕ → ℤ) → Call) → Row
row kind body fields call = record { kind = kind; body = body; fields = fields; call = call }

-- "Kind | Call: fields | Body"
unfoldable pub kinds : List Row
kinds =
    row 0x01 4 1 (λ f. CreTsk (f 0))
    ∷ row 0x02 4 1 (λ f. DelTsk (f 0))
    ∷ row 0x03 4 1 (λ f. StaTsk (f 0))
    ∷ row 0x05 4 1 (λ f. TerTsk (f 0))
    ∷ row 0x04 0 0 (λ f. ExtTsk)
    ∷ row 0x06 8 2 (λ f. ChgPri (f 0) (f 1))
    ∷ row 0x10 8 2 (λ f. CreMtx (f 0) (f 1))
    ∷ row 0x11 4 1 (λ f. DelMtx (f 0))
    ∷ row 0x13 4 1 (λ f. UnlMtx (f 0))
    ∷ row 0x12 8 2 (λ f. LocMtx (f 0) (f 1))
    ∷ row 0x20 12 3 (λ f. CreMbf (f 0) (f 1) (f 2))
    ∷ row 0x21 4 1 (λ f. DelMbf (f 0))
    ∷ row 0x22 44 3 (λ f. SndMbf (f 0) (f 1) (f 2))
    ∷ row 0x23 8 2 (λ f. RcvMbf (f 0) (f 1))
    ∷ row 0x30 12 3 (λ f. CreMpf (f 0) (f 1) (f 2))
    ∷ row 0x31 4 1 (λ f. DelMpf (f 0))
    ∷ row 0x32 8 2 (λ f. GetMpf (f 0) (f 1))
    ∷ row 0x33 8 2 (λ f. RelMpf (f 0) (f 1))
    ∷ row 0x40 0 0 (λ f. Tick)
    ∷ []

-- one more than the last kind
abbrev pub kind_count : ℕ
kind_count = 0x41

abbrev pub lookup : ℕ → List Row → Option Row
lookup kind [] = none
lookup kind (r ∷ rs) = elim (eqb kind r.kind) [ true ↦ some r | false ↦ lookup kind rs ]

unfoldable pub row_of : ℕ → Option Row
row_of kind = lookup kind kinds

-- the length of a kind's body
unfoldable pub body_length : ℕ → code.Option ℕ
body_length kind = elim (row_of kind) [ none ↦ None | some r ↦ Some r.body ]

-- the number that stands for each case in a table of bytes: 255 where no record has the kind
abbrev pub body_entry : code.Option ℕ → ℕ
body_entry (Some n) = n
body_entry None = 255

-- "Fields are signed 32-bit, least byte first."
unfoldable pub field : List ℕ → ℕ → ℤ
field body i = signed (number4 (body ! (4 * i)) (body ! (4 * i + 1)) (body ! (4 * i + 2)) (body ! (4 * i + 3)))

-- what reading finds: a record, or where the script stops
abbrev pub found : Call → Cursor → Result Record Stop
found c next = Ok (record { call = c; next = next })

abbrev pub stopped : ℕ → Result Record Stop
stopped at = Err (record { offset = at })

-- "A record is read or the script stops there": what stands first in the bytes from an offset on
unfoldable pub read_here : ℕ → List ℕ → Result Record Stop
read_here at [] = stopped at
read_here at (kind ∷ body) =
    elim (row_of kind) [
      | none ↦ stopped at
      | some r ↦
          elim (leb r.body (length body))
          [ true ↦ found (r.call (field body)) (record { at = suc (at + r.body) }) | false ↦ stopped at ]
    ]

unfoldable pub read_record : List ℕ → ℕ → Result Record Stop
read_record script at = read_here at (drop at script)

-- the bytes of a record's message, where it has one: the 32 of snd_mbf
unfoldable pub message_here : List ℕ → List ℕ
message_here [] = []
message_here (kind ∷ body) =
    elim (row_of kind) [ none ↦ [] | some r ↦ take (r.body - 4 * r.fields) (drop (4 * r.fields) body) ]

unfoldable pub record_message : List ℕ → ℕ → List ℕ
record_message script at = message_here (drop at script)

-- a call's kind and fields, as they are written
unfoldable pub kind_of : Call → ℕ
kind_of (CreTsk priority) = 0x01
kind_of (DelTsk task) = 0x02
kind_of (StaTsk task) = 0x03
kind_of ExtTsk = 0x04
kind_of (TerTsk task) = 0x05
kind_of (ChgPri task priority) = 0x06
kind_of (CreMtx attribute ceiling) = 0x10
kind_of (DelMtx mutex) = 0x11
kind_of (LocMtx mutex timeout) = 0x12
kind_of (UnlMtx mutex) = 0x13
kind_of (CreMbf attribute bufsz maxmsz) = 0x20
kind_of (DelMbf buffer) = 0x21
kind_of (SndMbf buffer msgsz timeout) = 0x22
kind_of (RcvMbf buffer timeout) = 0x23
kind_of (CreMpf attribute count size) = 0x30
kind_of (DelMpf pool) = 0x31
kind_of (GetMpf pool timeout) = 0x32
kind_of (RelMpf pool block) = 0x33
kind_of Tick = 0x40

unfoldable pub fields_of : Call → List ℤ
fields_of (CreTsk priority) = priority ∷ []
fields_of (DelTsk task) = task ∷ []
fields_of (StaTsk task) = task ∷ []
fields_of ExtTsk = []
fields_of (TerTsk task) = task ∷ []
fields_of (ChgPri task priority) = task ∷ priority ∷ []
fields_of (CreMtx attribute ceiling) = attribute ∷ ceiling ∷ []
fields_of (DelMtx mutex) = mutex ∷ []
fields_of (LocMtx mutex timeout) = mutex ∷ timeout ∷ []
fields_of (UnlMtx mutex) = mutex ∷ []
fields_of (CreMbf attribute bufsz maxmsz) = attribute ∷ bufsz ∷ maxmsz ∷ []
fields_of (DelMbf buffer) = buffer ∷ []
fields_of (SndMbf buffer msgsz timeout) = buffer ∷ msgsz ∷ timeout ∷ []
fields_of (RcvMbf buffer timeout) = buffer ∷ timeout ∷ []
fields_of (CreMpf attribute count size) = attribute ∷ count ∷ size ∷ []
fields_of (DelMpf pool) = pool ∷ []
fields_of (GetMpf pool timeout) = pool ∷ timeout ∷ []
fields_of (RelMpf pool block) = pool ∷ block ∷ []
fields_of Tick = []

-- "Fields are signed 32-bit": numbers that all fit, and a call whose fields do
abbrev pub Fit : List ℤ → Type 0
Fit [] = Unit {0}
Fit (z ∷ zs) = (mag z < 2 ^ 31) × Fit zs

abbrev pub FieldsFit : Call → Type 0
FieldsFit c = Fit (fields_of c)

-- a record's bytes, from the call and the message bytes that it carries
unfoldable pub record_bytes : Call → List ℕ → List ℕ
record_bytes c message = kind_of c ∷ joined (map code_bytes (fields_of c)) ++ message

-- what has to unfold for the definitions of this file to compute
unfoldable pub compute_record : Unit {0}
unfolding kinds row_of body_length field read_here read_record message_here record_message kind_of fields_of record_bytes
compute_record = tt
