-- The message of a send: between quotes, or in hexadecimal behind an `x`, or none.
use Rattle.std.specs.Prelude.{ℕ, zero, suc, ◌+◌, ◌*◌, ◌-◌, Bool, true, false, ◌&&◌, cond, List, length, set, eqb, leb, ltb, Option, Some, None, Result, Ok, Err, option_and_then, ok_or}
use Rattle.model.specs.Lists.{◌!◌}
use Rattle.assemble.specs.declared.reason.Reason.{Reason}
use Rattle.assemble.specs.declared.reason.Reason.TheVariants.{BadMessage, LongMessage}
use Rattle.assemble.specs.declared.message.Piece.{Piece}
use Rattle.assemble.specs.declared.message.Piece.TheVariants.{Byte, End}
use Rattle.assemble.specs.Words.{ends_word, word_start}
use Rattle.assemble.specs.Read.{Step, Read, read}

-- what a digit stands for: 0 to 9, a to f or A to F; nothing else is one
unfoldable pub hex_value : ℕ → Option ℕ
hex_value c =
    cond (leb 48 c && leb c 57) (Some (c - 48)) (cond (leb 65 c && leb c 70) (Some (c - 55)) (cond (leb 97 c && leb c 102) (Some (c - 87)) None))

-- a byte of two of them, with the place behind it
unfoldable pub hex_byte : ℕ → ℕ → ℕ → Option Piece
hex_byte high low next = option_and_then (λ a. option_and_then (λ b. Some (Byte (16 * a + b) next)) (hex_value low)) (hex_value high)

-- between quotes: a quote ends it, `\xHH` is any byte, and every other byte stands for itself
unfoldable pub escaped : List ℕ → ℕ → Option Piece
escaped line at =
    cond (leb (at + 4) (length line)) (cond (eqb (line ! (at + 1)) 120) (hex_byte (line ! (at + 2)) (line ! (at + 3)) (at + 4)) None) None

unfoldable pub quoted_piece : List ℕ → ℕ → Option Piece
quoted_piece line at =
    let c = line ! at in
    cond (ltb at (length line)) (cond (eqb c 34) (Some (End (at + 1))) (cond (eqb c 92) (escaped line at) (Some (Byte c (at + 1))))) None

-- in hexadecimal: two digits a byte, up to the word's end
unfoldable pub hex_piece : List ℕ → ℕ → Option Piece
hex_piece line at =
    let c = line ! at in
    cond (ltb at (length line)) (cond (ends_word c) (Some (End at)) (cond (leb (at + 2) (length line)) (hex_byte c (line ! (at + 1)) (at + 2)) None)) (Some (End at))

abbrev pub piece_at : Bool → List ℕ → ℕ → Result Piece Reason
piece_at true line at = ok_or (quoted_piece line at) BadMessage
piece_at false line at = ok_or (hex_piece line at) BadMessage

-- where a message that takes no more bytes goes on
abbrev pub ended : Piece → Step
ended (Byte c next) = Err LongMessage
ended (End next) = Ok next

-- as many bytes as there is room for, put into the message from byte n on
abbrev pub bytes_from : Bool → ℕ → ℕ → List ℕ → List ℕ → ℕ → Read ℕ
bytes_from quoted zero n message line at = elim (piece_at quoted line at) [ Ok p ↦ read message (ended p) | Err why ↦ read message (Err why) ]
bytes_from quoted (suc room) n message line at =
    elim (piece_at quoted line at) [
      | Ok p ↦
          elim p [ Byte c next ↦ bytes_from quoted room (suc n) (set message n c) line next | End next ↦ read message (Ok next) ]
      | Err why ↦ read message (Err why)
    ]

-- by the byte that it begins with
abbrev pub message_by : ℕ → List ℕ → List ℕ → ℕ → Read ℕ
message_by c message line at =
    cond (eqb c 35) (read message (Ok at))
    (cond (eqb c 34) (bytes_from true (length message) 0 message line (at + 1))
    (cond (eqb c 120) (bytes_from false (length message) 0 message line (at + 1)) (read message (Err BadMessage))))

-- the message at a place, over what the area has
unfoldable pub message_at : List ℕ → List ℕ → ℕ → Read ℕ
message_at message line at = cond (ltb at (length line)) (message_by (line ! at) message line at) (read message (Ok at))

-- the message behind a call's fields, where the kind has one
unfoldable pub message_read : List ℕ → ℕ → List ℕ → ℕ → Read ℕ
message_read message size line from = cond (eqb size 0) (read message (Ok from)) (message_at message line (word_start line from))

-- what has to unfold for the definitions of this file to compute
unfoldable pub compute_messages : Unit {0}
unfolding hex_value hex_byte escaped quoted_piece hex_piece message_at message_read
compute_messages = tt
