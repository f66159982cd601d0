-- A text at the front of an area that is long enough for it.
use Rattle.std.specs.Prelude.{ℕ, ◌≤◌, ◌≡◌, List, length, take}

-- no line is longer
abbrev pub line_bytes : ℕ
line_bytes = 256

-- the first n bytes of the area are the text
pub record IsFront (area : List ℕ) (n : ℕ) (line : List ℕ) : Type 0 where
  pub bytes : take n area ≡ line
  pub inside : n ≤ length area
