-- A line of text: its words, up to a comment.
use Rattle.std.specs.Prelude.{ℕ, ◌+◌, Bool, true, not, ◌||◌, List, [], ◌∷◌, take, drop, eqb}
use Rattle.std.specs.List.{prefix_len}

-- what stands between words: spaces, tabs, and the first byte of a line's end that has two
abbrev pub is_blank : ℕ → Bool
is_blank c = eqb c 32 || eqb c 9 || eqb c 13

-- a word ends at a blank or a comment
abbrev pub ends_word : ℕ → Bool
ends_word c = is_blank c || eqb c 35

-- the place of the next word from a place on: behind the blanks
unfoldable pub word_start : List ℕ → ℕ → ℕ
word_start line at = at + prefix_len is_blank (drop at line)

-- the word at a place: its length, the place behind it, its bytes
unfoldable pub word_length : List ℕ → ℕ → ℕ
word_length line at = prefix_len (λ c. not (ends_word c)) (drop at line)

unfoldable pub word_end : List ℕ → ℕ → ℕ
word_end line at = at + word_length line at

unfoldable pub word_at : List ℕ → ℕ → List ℕ
word_at line at = take (word_length line at) (drop at line)

-- nothing more is on the line, but for a comment
abbrev pub is_over : List ℕ → Bool
is_over [] = true
is_over (c ∷ l) = eqb c 35

-- what has to unfold for the definitions of this file to compute
unfoldable pub compute_words : Unit {0}
unfolding word_start word_length word_end word_at
compute_words = tt
