-- Words as they stand in a file: "least byte first", four bytes each.
use Rattle.std.specs.Prelude.{ℕ, zero, suc, ◌+◌, List, [], ◌∷◌, drop}
use Rattle.model.specs.Lists.{◌!◌}
use Rattle.model.specs.Code.{number4}

-- the word that begins at a place
abbrev pub word_at : List ℕ → ℕ → ℕ
word_at b at = number4 (b ! at) (b ! (at + 1)) (b ! (at + 2)) (b ! (at + 3))

-- the first n words
unfoldable pub words_of : ℕ → List ℕ → List ℕ
words_of zero b = []
words_of (suc n) b = word_at b 0 ∷ words_of n (drop 4 b)
