-- The line of what stands at a place of a script: its record's call, that the script stops there and why, or its end.
use Rattle.std.specs.Prelude.{ℕ, zero, suc, cond, List, [], ◌∷◌, ◌++◌, length, drop, eqb, leb, ltb, Some, None}
use Rattle.model.specs.Sizes.{script_bytes}
use Rattle.model.specs.Record.{body_length, field, message_here}
use Rattle.text.specs.Names.{ascii, template}
use Rattle.text.specs.Numbers.{decimal, signed_decimal, hex_byte}
use Rattle.text.specs.Quoted.{quoted}

-- what follows a word of a template: nothing behind the call's name, behind a field's name its number
unfoldable pub word_value : List ℕ → ℕ → List ℕ
word_value body zero = []
word_value body (suc i) = ascii "=" ++ signed_decimal (field body i)

-- a letter of a template, and before a space what follows the word that ends there
unfoldable pub letter : List ℕ → ℕ → ℕ → List ℕ
letter body word c = cond (eqb c 32) (word_value body word ++ c ∷ []) (c ∷ [])

abbrev pub word_after : ℕ → ℕ → ℕ
word_after word c = cond (eqb c 32) (suc word) word

-- a template from its word of that number on, with what follows each word
abbrev pub with_values : List ℕ → ℕ → List ℕ → List ℕ
with_values body word [] = word_value body word
with_values body word (c ∷ cs) = letter body word c ++ with_values body (word_after word c) cs

-- the call's name alone
abbrev pub first_word : List ℕ → List ℕ
first_word [] = []
first_word (c ∷ cs) = cond (eqb c 32) [] (c ∷ first_word cs)

-- the message behind the fields, where the record has one
unfoldable pub message_text : List ℕ → List ℕ
message_text [] = []
message_text (b ∷ bs) = ascii " " ++ quoted (b ∷ bs)

unfoldable pub call_text : ℕ → List ℕ → List ℕ
call_text kind body = with_values body 0 (template kind) ++ message_text (message_here (kind ∷ body))

-- why a script stops
unfoldable pub unknown_text : ℕ → List ℕ
unknown_text kind = ascii "stopped: kind " ++ hex_byte kind ++ ascii " hex is unknown"

unfoldable pub cut_text : ℕ → ℕ → ℕ → List ℕ
cut_text kind needs has =
    ascii "stopped: " ++ first_word (template kind) ++ ascii " needs " ++ decimal needs ++ ascii " bytes and has " ++ decimal has

-- what stands first in a script's bytes from a place on, as `read_here` reads it
unfoldable pub here_text : List ℕ → List ℕ
here_text [] = ascii "end"
here_text (kind ∷ body) =
    elim (body_length kind) [
      | None ↦ unknown_text kind
      | Some n ↦ cond (leb n (length body)) (call_text kind body) (cut_text kind n (length body))
    ]

unfoldable pub too_long_text : List ℕ
too_long_text = ascii "the script is longer than " ++ decimal script_bytes ++ ascii " bytes\n"

-- a script that is too long has no other line
unfoldable pub place_line : List ℕ → ℕ → List ℕ
place_line script at =
    cond (ltb script_bytes (length script)) too_long_text (decimal at ++ ascii ": " ++ here_text (drop at script) ++ ascii "\n")

-- what has to unfold for the definitions of this file to compute
unfoldable pub compute_place : Unit {0}
unfolding template word_value letter message_text call_text unknown_text cut_text here_text too_long_text place_line
compute_place = tt
