-- A record that is written to an area: where it fits, and where its message is as long as its kind has it.
use Rattle.std.specs.Prelude.{ℕ, ◌+◌, ◌*◌, ◌-◌, ◌≡◌, true, false, cond, List, ◌∷◌, ◌++◌, length, eqb, Result, Ok, Err}
use Rattle.std.proofs.Math.Option.{none, some}
use Rattle.model.specs.declared.call.Call.{Call}
use Rattle.model.specs.Code.{code_bytes}
use Rattle.model.specs.Record.{row_of, kind_of, fields_of, record_bytes}
use Rattle.script.specs.declared.writer.Head.{Head}
use Rattle.script.specs.declared.writer.WriteError.{WriteError}
use Rattle.script.specs.declared.writer.WriteError.TheVariants.{NoRoom, WrongMessage}
use Rattle.script.specs.Place.{room}
use Rattle.model.specs.Message.{over}
use Rattle.script.specs.Body.{field_at}

-- how long a kind's message is
unfoldable pub message_length : ℕ → ℕ
message_length kind = elim (row_of kind) [ none ↦ 0 | some r ↦ r.body - 4 * r.fields ]

-- the answer
unfoldable pub wrote : List ℕ → ℕ → Call → List ℕ → Result ℕ WriteError
wrote area at c message =
    elim (eqb (length message) (message_length (kind_of c))) [
      | true ↦
          let n = length (record_bytes c message) in
          cond (room (length area) at n) (Ok (at + n)) (Err NoRoom)
      | false ↦ Err WrongMessage
    ]

-- the area: the record's bytes stand at the place, and every other byte is as it came
unfoldable pub rewritten : List ℕ → ℕ → Call → List ℕ → List ℕ
rewritten area at c message =
    elim (wrote area at c message) [ Ok n ↦ over area at (record_bytes c message) | Err e ↦ area ]

pub record Writes (before : List ℕ) (at : ℕ) (c : Call) (message after : List ℕ) (r : Result ℕ WriteError) : Type 0 where
  pub answer : r ≡ wrote before at c message
  pub area : after ≡ rewritten before at c message

-- a call as the writer takes it apart: its kind and its first three fields, and their bytes
unfoldable pub call_head : Call → Head
call_head c = record { 0 = kind_of c; 1 = field_at (fields_of c) 0; 2 = field_at (fields_of c) 1; 3 = field_at (fields_of c) 2 }

abbrev pub head_bytes : Head → List ℕ
head_bytes h = h.0 ∷ code_bytes h.1 ++ code_bytes h.2 ++ code_bytes h.3
