-- Numbers as people write them.
use Rattle.std.specs.Prelude.{ℕ, zero, suc, ◌+◌, ◌/◌, ◌%◌, cond, List, [], ◌∷◌, ◌++◌, ℤ, pos, negsuc, ltb}
use Rattle.text.specs.Names.{ascii, error_name}

-- the ASCII code of a digit
abbrev pub digit : ℕ → ℕ
digit d = 48 + d

-- A number in decimal, the first digit first; of so many digits at most.
abbrev pub digits_of : ℕ → ℕ → List ℕ
digits_of zero n = []
digits_of (suc most) n = cond (ltb n 10) (digit n ∷ []) (digits_of most (n / 10) ++ digit (n % 10) ∷ [])

-- no number of 64 bits has more than 20
unfoldable pub decimal : ℕ → List ℕ
decimal n = digits_of 20 n

-- with a minus in front where it is below 0
unfoldable pub signed_decimal : ℤ → List ℕ
signed_decimal (pos n) = decimal n
signed_decimal (negsuc n) = ascii "-" ++ decimal (suc n)

-- an answer's code: below 0 with the error's name
unfoldable pub code_text : ℤ → List ℕ
code_text (pos n) = signed_decimal (pos n) ++ []
code_text (negsuc n) = signed_decimal (negsuc n) ++ error_name (suc n)

-- a byte as two hexadecimal digits
abbrev pub hex_digit : ℕ → ℕ
hex_digit d = cond (ltb d 10) (48 + d) (55 + d)

unfoldable pub hex_byte : ℕ → List ℕ
hex_byte b = hex_digit (b / 16) ∷ hex_digit (b % 16) ∷ []

-- what has to unfold for the definitions of this file to compute
unfoldable pub compute_numbers : Unit {0}
unfolding error_name decimal signed_decimal code_text hex_byte
compute_numbers = tt
