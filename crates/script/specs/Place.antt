-- Bytes in a lent area: they go to a place whole, and every other byte stays as it came; or nothing is written.
use Rattle.std.specs.Prelude.{ℕ, ◌+◌, ◌≤◌, ◌≡◌, Bool, cond, List, length, leb}
use Rattle.model.specs.Message.{over}

-- there is room for n bytes from a place on
abbrev pub room : ℕ → ℕ → ℕ → Bool
room size at n = leb (at + n) size

-- the area with bytes put over it at a place where there is room for them, else the area as it came
unfoldable pub placed : List ℕ → ℕ → List ℕ → List ℕ
placed area at bytes = cond (room (length area) at (length bytes)) (over area at bytes) area

-- the place after them, or the place as it was
unfoldable pub next_place : List ℕ → ℕ → List ℕ → ℕ
next_place area at bytes = cond (room (length area) at (length bytes)) (at + length bytes) at

-- What an append leaves: the area, and the next place.
pub record Appends (before : List ℕ) (at : ℕ) (bytes after : List ℕ) (next : ℕ) : Type 0 where
  pub area : after ≡ placed before at bytes
  pub place : next ≡ next_place before at bytes

-- What several appends leave: as one append of all their bytes, if there is room for all of them. Without it an item that does not fit is left
-- out, and a shorter one behind it may still be written.
pub record Wrote (before : List ℕ) (at : ℕ) (bytes after : List ℕ) (next : ℕ) : Type 0 where
  pub all : at + length bytes ≤ length before → Appends before at bytes after next
