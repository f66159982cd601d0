-- A line: nothing, or a call by its name, its fields and its message.
use Rattle.std.specs.Prelude.{ℕ, ◌+◌, ◌/◌, ◌≡◌, cond, List, [], ◌∷◌, length, take, drop, ℤ, pos, Option, Some, None, Ok, Err}
use Rattle.model.specs.Sizes.{message_bytes}
use Rattle.model.specs.Lists.{zeros}
use Rattle.model.specs.declared.call.Call.{Call}
use Rattle.model.specs.Record.{kinds, record_bytes}
use Rattle.script.specs.declared.body.Body.{Body}
use Rattle.script.specs.Body.{body_parts, call_in}
use Rattle.script.specs.Place.{room, placed}
use Rattle.assemble.specs.declared.reason.Reason.{Reason}
use Rattle.assemble.specs.declared.reason.Reason.TheVariants.{UnknownCall, LeftOver, LongScript}
use Rattle.assemble.specs.Words.{word_start, word_end, word_at, is_over}
use Rattle.assemble.specs.Calls.{kind_named}
use Rattle.assemble.specs.Read.{Step, Read}
use Rattle.assemble.specs.Fields.{fields_read}
use Rattle.assemble.specs.Messages.{message_read}

-- What a line comes to: nothing, a record, or what is wrong with it.
pub data Line : Type 0 where
  Blank : Line
  Bytes : List ℕ → Line
  Bad : Reason → Line

-- where the message ends, nothing but a comment is left of the line
abbrev pub ends_with : List ℕ → List ℕ → Step → Line
ends_with bytes line (Err why) = Bad why
ends_with bytes line (Ok end) = cond (is_over (drop (word_start line end) line)) (Bytes bytes) (Bad LeftOver)

-- the record of a call, with as much of the message's area as its kind has
abbrev pub with_message : Call → ℕ → List ℕ → Read ℕ → Line
with_message c size line m = ends_with (record_bytes c (take size m.area)) line m.step

-- behind the fields, the message
abbrev pub with_fields : ℕ → ℕ → List ℕ → List ℤ → Step → Line
with_fields kind size line values (Err why) = Bad why
with_fields kind size line values (Ok behind) = with_message (call_in kinds kind values) size line (message_read (zeros message_bytes) size line behind)

-- no call has more fields than three
abbrev pub no_fields : List ℤ
no_fields = pos 0 ∷ pos 0 ∷ pos 0 ∷ []

abbrev pub with_parts : ℕ → List ℕ → ℕ → Option Body → Line
with_parts kind line from None = Bad UnknownCall
with_parts kind line from (Some b) =
    let f = fields_read (b.fields / 4) no_fields kind line from in
    with_fields kind b.message line f.area f.step

-- what is behind a call's name
unfoldable pub call_line : ℕ → List ℕ → ℕ → Line
call_line kind line from = with_parts kind line from (body_parts kind)

abbrev pub with_kind : List ℕ → ℕ → Option ℕ → Line
with_kind line from None = Bad UnknownCall
with_kind line from (Some kind) = call_line kind line from

unfoldable pub line_at : List ℕ → ℕ → Line
line_at line start = cond (is_over (drop start line)) Blank (with_kind line (word_end line start) (kind_named (word_at line start)))

unfoldable pub line_of : List ℕ → Line
line_of line = line_at line (word_start line 0)

-- a line's step in a script of some length, and the area after it
abbrev pub line_step : ℕ → ℕ → Line → Step
line_step size at Blank = Ok at
line_step size at (Bytes b) = cond (room size at (length b)) (Ok (at + length b)) (Err LongScript)
line_step size at (Bad why) = Err why

abbrev pub line_area : List ℕ → ℕ → Line → List ℕ
line_area area at Blank = area
line_area area at (Bytes b) = placed area at b
line_area area at (Bad why) = area

-- What a line does to an area that a script is put in.
pub record Extends (before : List ℕ) (at : ℕ) (l : Line) (after : List ℕ) (r : Step) : Type 0 where
  pub answer : r ≡ line_step (length before) at l
  pub area : after ≡ line_area before at l

-- what has to unfold for the definitions of this file to compute
unfoldable pub compute_lines : Unit {0}
unfolding call_line line_at line_of body_parts call_in
compute_lines = tt
