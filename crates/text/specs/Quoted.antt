-- A message as people read it: between quotes, without the zeros that fill it up.
use Rattle.std.specs.Prelude.{ℕ, zero, suc, Bool, ◌&&◌, not, cond, List, [], ◌∷◌, ◌++◌, map, eqb, leb}
use Rattle.model.specs.Lists.{joined}
use Rattle.text.specs.Names.{ascii}
use Rattle.text.specs.Numbers.{hex_byte}

-- a byte that stands for itself: printable ASCII, and neither a quote nor a backslash
unfoldable pub plain : ℕ → Bool
plain b = leb 32 b && leb b 126 && not (eqb b 34) && not (eqb b 92)

-- any other byte is \x and its two hexadecimal digits
unfoldable pub shown_byte : ℕ → List ℕ
shown_byte b = cond (plain b) (b ∷ []) (ascii "\\x" ++ hex_byte b)

-- a byte before others, but no zero before none
abbrev pub before : ℕ → List ℕ → List ℕ
before zero [] = []
before (suc b) [] = suc b ∷ []
before b (c ∷ cs) = b ∷ c ∷ cs

-- bytes without the zeros at their end
unfoldable pub trimmed : List ℕ → List ℕ
trimmed [] = []
trimmed (b ∷ bs) = before b (trimmed bs)

unfoldable pub quoted : List ℕ → List ℕ
quoted message = ascii "\"" ++ (joined (map shown_byte (trimmed message)) ++ ascii "\"")

-- what has to unfold for the definitions of this file to compute
unfoldable pub compute_quoted : Unit {0}
unfolding plain shown_byte trimmed quoted hex_byte
compute_quoted = tt
