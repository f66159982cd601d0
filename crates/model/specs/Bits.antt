-- Words of bits: which number has which bits.
use Rattle.std.specs.Prelude.{ℕ, suc, ◌+◌, ◌*◌, ◌/◌, ◌%◌, ◌^◌, Bool, cond, List, [], ◌∷◌}

-- the word that has these bits, the lowest first
unfoldable pub word_of : List Bool → ℕ
word_of [] = 0
word_of (b ∷ bs) = word_of bs * 2 + cond b 1 0

-- a word with one bit, counted from 0, set or not: the bits above it, the bit, the bits below it
unfoldable pub with_bit : ℕ → ℕ → Bool → ℕ
with_bit w i b = w / 2 ^ suc i * 2 ^ suc i + cond b (2 ^ i) 0 + w % 2 ^ i

-- what has to unfold for the definitions of this file to compute
unfoldable pub compute_bits : Unit {0}
unfolding word_of with_bit
compute_bits = tt
