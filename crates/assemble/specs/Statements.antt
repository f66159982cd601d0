-- What `show` writes comes to the same records again.
use Rattle.std.specs.Prelude.{ℕ, ◌≤◌, ◌<◌, ◌≡◌, List, [], ◌∷◌, ◌++◌, length}
use Rattle.model.specs.declared.call.Call.{Call}
use Rattle.model.specs.Sizes.{script_bytes}
use Rattle.model.specs.Lists.{◌!◌}
use Rattle.model.specs.Record.{kind_of, FieldsFit, record_bytes}
use Rattle.script.specs.Write.{message_length}
use Rattle.text.specs.Names.{ascii}
use Rattle.text.specs.Place.{here_text}
use Rattle.assemble.specs.Lines.{Bytes, line_of}
use Rattle.assemble.specs.Assembled.{Made, assembled}

-- A call that a record can carry: its fields fit 32 bits, and its message is as many bytes as its kind has.
pub record Carried (c : Call) (message : List ℕ) : Type 0 where
  pub fields : FieldsFit c
  pub size : length message ≡ message_length (kind_of c)
  pub bytes : (i : ℕ) → message ! i < 256

-- A record that stands at a place of a script, whatever follows it: the line that `show` writes of it, behind the place and its colon, is the record's
-- bytes.
abbrev pub ShownComesBack : Type 0
ShownComesBack =
    (c : Call) (message rest : List ℕ) → Carried c message → line_of (here_text (record_bytes c message ++ rest)) ≡ Bytes (record_bytes c message)

-- Calls, each with its message; the script of their records; and what `show` writes at each one's place, a line each.
abbrev pub Records : Type 0
Records = List (Call × List ℕ)

abbrev pub AllCarried : Records → Type 0
AllCarried [] = Unit {0}
AllCarried (e ∷ es) = Carried e.0 e.1 × AllCarried es

abbrev pub script_of : Records → List ℕ
script_of [] = []
script_of (e ∷ es) = record_bytes e.0 e.1 ++ script_of es

abbrev pub shown_lines : Records → List ℕ
shown_lines [] = []
shown_lines (e ∷ es) = here_text (script_of (e ∷ es)) ++ (ascii "\n" ++ shown_lines es)

-- A script that is not too long: the lines that `show` writes of its records assemble to the script.
abbrev pub ScriptComesBack : Type 0
ScriptComesBack = (es : Records) → AllCarried es → length (script_of es) ≤ script_bytes → assembled (shown_lines es) ≡ Made (script_of es)
