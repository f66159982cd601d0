-- The fields of a call: numbers, each with or without the field's name in front.
use Rattle.std.specs.Prelude.{ℕ, zero, suc, ◌+◌, Bool, not, cond, List, length, take, drop, set, ℤ, eqb, ltb, Result, Ok, Err, ok_or, bytes_eq}
use Rattle.std.specs.List.{prefix_len}
use Rattle.text.specs.Names.{template}
use Rattle.assemble.specs.declared.reason.Reason.{Reason}
use Rattle.assemble.specs.declared.reason.Reason.TheVariants.{FieldMissing, OtherField, NotANumber}
use Rattle.assemble.specs.Words.{word_start, word_end, word_at, is_over}
use Rattle.assemble.specs.Numbers.{number_at}
use Rattle.assemble.specs.Read.{Read, read}

-- how many bytes of a word stand in front of its first `=`: all of them, if it has none
abbrev pub in_name : ℕ → Bool
in_name c = not (eqb c 61)

unfoldable pub name_length : List ℕ → ℕ
name_length word = prefix_len in_name word

-- a word's number from a place on
unfoldable pub number_from : List ℕ → ℕ → Result ℤ Reason
number_from word from = ok_or (number_at word from) NotANumber

-- the field of a name that a word is: with no `=` in it a number; else what stands in front of the first `=` has to be the name, and the number stands
-- behind it
unfoldable pub field_of : List ℕ → List ℕ → Result ℤ Reason
field_of name word =
    let n = name_length word in
    cond (ltb n (length word)) (cond (bytes_eq (take n word) name) (number_from word (n + 1)) (Err OtherField)) (number_from word 0)

-- the field of a name at a place
unfoldable pub field_at : List ℕ → List ℕ → ℕ → Result ℤ Reason
field_at name line at = cond (is_over (drop at line)) (Err FieldMissing) (field_of name (word_at line at))

-- n fields from field i on, put into values; by their names from place t on
abbrev pub fields_from : ℕ → ℕ → List ℤ → List ℕ → ℕ → List ℕ → ℕ → Read ℤ
fields_from zero i values names t line at = read values (Ok at)
fields_from (suc n) i values names t line at =
    elim (field_at (word_at names (word_start names t)) line (word_start line at)) [
      | Err why ↦ read values (Err why)
      | Ok z ↦ fields_from n (suc i) (set values i z) names (word_end names (word_start names t)) line (word_end line (word_start line at))
    ]

-- the fields of a kind's call: the template has their names behind the call's
unfoldable pub fields_read : ℕ → List ℤ → ℕ → List ℕ → ℕ → Read ℤ
fields_read count values kind line at = fields_from count 0 values (template kind) (word_end (template kind) 0) line at

-- what has to unfold for the definitions of this file to compute
unfoldable pub compute_fields : Unit {0}
unfolding name_length number_from field_of field_at fields_read
compute_fields = tt
