-- Texts as the definitions compute them. Assumes nothing.
use mathlib.Core.Path.{◌≡◌, refl}
use mathlib.Core.List.{[], ◌∷◌, ◌++◌}
use lib.IntN.{pos}
use Rattle.model.specs.Code.{minus}
use Rattle.model.specs.Record.{compute_record}
use Rattle.text.specs.Names.{ascii}
use Rattle.text.specs.Numbers.{signed_decimal, code_text, compute_numbers}
use Rattle.text.specs.Quoted.{quoted, compute_quoted}
use Rattle.text.specs.Place.{place_line, compute_place}
use Rattle.text.specs.Item.{item_line, compute_item}
use Rattle.text.specs.Whole.{script_text, compute_whole}

-- numbers at both ends of their range, and a code with its name
least : signed_decimal (minus 2147483648) ≡ ascii "-2147483648"
unfolding compute_numbers
least = refl

greatest : signed_decimal (pos 2147483647) ≡ ascii "2147483647"
unfolding compute_numbers
greatest = refl

a-code : code_text (minus 17) ≡ ascii "-17 E_PAR"
unfolding compute_numbers
a-code = refl

-- zeros in the middle of a message are shown, those at its end are not
a-message : quoted (0x61 ∷ 0x22 ∷ 0 ∷ 0xFF ∷ 0x7A ∷ 0 ∷ 0 ∷ []) ≡ ascii "\"a\\x22\\x00\\xFFz\""
unfolding compute_quoted
a-message = refl

-- a kind that no record has
unknown : place_line (0x40 ∷ 0x07 ∷ []) 1 ≡ ascii "1: stopped: kind 07 hex is unknown\n"
unfolding compute_numbers compute_record compute_place
unknown = refl

a-timeout : item_line (0x83 ∷ 3 ∷ 0xCE ∷ 0xFF ∷ 0xFF ∷ 0xFF ∷ 0x8F ∷ 1 ∷ []) ≡ ascii "  task 3: wait ended, -50 E_TMOUT\n"
unfolding compute_numbers compute_record compute_item
a-timeout = refl

-- 01, "Whole example"
whole : script_text (0x40 ∷ 0x32 ∷ 1 ∷ 0 ∷ 0 ∷ 0 ∷ 0 ∷ 0 ∷ 0 ∷ 0 ∷ 0x22 ∷ [])
    ≡ ascii "0: tick\n  answer 0\n  runs task 1\n" ++ ascii "1: get_mpf mpfid=1 tmout=0\n  answer -42 E_NOEXS\n  runs task 1\n"
    ++ ascii "10: stopped: snd_mbf needs 44 bytes and has 0\n"
unfolding compute_whole
whole = refl
