-- What filling a lent area does: an area of a state's length becomes the words of the fresh kernel, any other is left alone.
use Rattle.std.specs.Prelude.{ℕ, ◌≡◌, cond, List, length, eqb, Result, Ok, Err}
use Rattle.model.specs.Kernel.{fresh}
use Rattle.state.specs.declared.WrongLength.{WrongLength}
use Rattle.model.specs.Words.{word_count, words}

-- the answer, and the area afterwards
unfoldable pub filled : List ℕ → Result Unit WrongLength
filled w = cond (eqb (length w) word_count) (Ok tt) (Err (record {}))

unfoldable pub fresh_words : List ℕ → List ℕ
fresh_words w = cond (eqb (length w) word_count) (words fresh) w

pub record Filling (w : List ℕ) (r : Result Unit WrongLength) (v : List ℕ) : Type 0 where
  pub answer : r ≡ filled w
  pub words : v ≡ fresh_words w
