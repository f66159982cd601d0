-- Answers as numbers: the standard's main error codes, and the bytes of a signed field.
use Rattle.std.specs.Prelude.{ℕ, zero, suc, ◌+◌, ◌*◌, ◌-◌, ◌/◌, ◌%◌, ◌^◌, min, cond, List, [], ◌∷◌, ℤ, pos, negsuc, ltb}
use Rattle.model.specs.Sizes.{longest}

-- the number below zero
abbrev pub minus : ℕ → ℤ
minus zero = pos zero
minus (suc n) = negsuc n

-- "Codes are the standard's main error codes."
abbrev pub E_OK : ℤ
E_OK = pos 0

abbrev pub E_SYS : ℤ
E_SYS = minus 5

abbrev pub E_RSATR : ℤ
E_RSATR = minus 11

abbrev pub E_PAR : ℤ
E_PAR = minus 17

abbrev pub E_ID : ℤ
E_ID = minus 18

abbrev pub E_CTX : ℤ
E_CTX = minus 25

abbrev pub E_ILUSE : ℤ
E_ILUSE = minus 28

abbrev pub E_NOMEM : ℤ
E_NOMEM = minus 33

abbrev pub E_LIMIT : ℤ
E_LIMIT = minus 34

abbrev pub E_OBJ : ℤ
E_OBJ = minus 41

abbrev pub E_NOEXS : ℤ
E_NOEXS = minus 42

abbrev pub E_TMOUT : ℤ
E_TMOUT = minus 50

abbrev pub E_DLT : ℤ
E_DLT = minus 51

-- one byte of a number: its least
abbrev pub low_byte : ℕ → ℕ
low_byte n = n % 256

-- "Fields are signed 32-bit, least byte first": a number below 2 ^ 32 as four bytes, and four bytes as a number
abbrev pub bytes4 : ℕ → List ℕ
bytes4 n = n % 256 ∷ n / 256 % 256 ∷ n / 65536 % 256 ∷ n / 16777216 % 256 ∷ []

abbrev pub number4 : ℕ → ℕ → ℕ → ℕ → ℕ
number4 a b c d = a + b * 256 + c * 65536 + d * 16777216

-- the signed number of 32 bits, and its bits
abbrev pub signed : ℕ → ℤ
signed n = cond (ltb n (2 ^ 31)) (pos n) (minus (2 ^ 32 - n))

abbrev pub bits : ℤ → ℕ
bits (pos n) = n
bits (negsuc n) = 2 ^ 32 - suc n

-- the nearest signed number of 32 bits, of a number that they need not hold: "An answer that these papers leave free is named in the contract, with what
-- holds of it."
abbrev pub saturated : ℤ → ℤ
saturated (pos n) = pos (min n longest)
saturated (negsuc n) = negsuc (min n longest)

abbrev pub code_bytes : ℤ → List ℕ
code_bytes c = bytes4 (bits c)

-- a field as a number of an object or a size; one below zero is refused before it is used
abbrev pub number : ℤ → ℕ
number (pos n) = n
number (negsuc n) = 0
