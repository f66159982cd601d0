-- What is wrong with a line, or with a whole text, as people read it.
use Rattle.std.specs.Prelude.{ℕ, List, ◌++◌}
use Rattle.model.specs.Sizes.{message_bytes, script_bytes}
use Rattle.text.specs.Names.{ascii}
use Rattle.text.specs.Numbers.{decimal}
use Rattle.script.specs.declared.writer.WriteError.{WriteError}
use Rattle.script.specs.declared.writer.WriteError.TheVariants.{NoRoom, WrongMessage}
use Rattle.assemble.specs.declared.reason.Reason.{Reason}
use Rattle.assemble.specs.declared.reason.Reason.TheVariants.{UnknownCall, FieldMissing, OtherField, NotANumber, BadMessage, LongMessage, LeftOver, LongScript}

-- why a record is refused, as what is wrong with its line
abbrev pub reason_of : WriteError → Reason
reason_of NoRoom = LongScript
reason_of WrongMessage = BadMessage

-- what has more bytes than it may have
unfoldable pub longer_than : List ℕ → ℕ → List ℕ
longer_than what most = ((what ++ ascii " is longer than ") ++ decimal most) ++ ascii " bytes"

abbrev pub reason_text : Reason → List ℕ
reason_text UnknownCall = ascii "unknown call"
reason_text FieldMissing = ascii "a field is missing"
reason_text OtherField = ascii "this field has another name"
reason_text NotANumber = ascii "not a number of 32 bits"
reason_text BadMessage = ascii "bad message"
reason_text LongMessage = longer_than (ascii "the message") message_bytes
reason_text LeftOver = ascii "something is left over"
reason_text LongScript = longer_than (ascii "the script") script_bytes

-- the line that says what is wrong with a line
unfoldable pub report : ℕ → Reason → List ℕ
report line r = (((ascii "line " ++ decimal line) ++ ascii ": ") ++ reason_text r) ++ ascii "\n"

-- the line that says that a text has more bytes than it may have
unfoldable pub long_text : ℕ → List ℕ
long_text most = longer_than (ascii "the text") most ++ ascii "\n"

-- the area for such a line: none is longer
abbrev pub report_bytes : ℕ
report_bytes = 96
