-- A text of calls, a line each, as the bytes of a script.
use Rattle.std.specs.Prelude.{ℕ, suc, ◌≡◌, cond, List, [], ◌∷◌, ◌++◌, length, take, eqb, Result, Ok, Err}
use Rattle.std.specs.List.{slice_split}
use Rattle.model.specs.Sizes.{script_bytes}
use Rattle.script.specs.Place.{room}
use Rattle.assemble.specs.declared.reason.Reason.{Reason}
use Rattle.assemble.specs.declared.reason.Reason.TheVariants.{LongScript}
use Rattle.assemble.specs.declared.assembler.WrongLine.{WrongLine as Where}
use Rattle.assemble.specs.Lines.{Blank, Bytes, Bad, line_of}

-- The bytes of a script; or which line is wrong, counted from 1, and why.
pub data Assembly : Type 0 where
  Made : List ℕ → Assembly
  WrongLine : ℕ → Reason → Assembly

-- the lines: a line feed ends one and begins the next
abbrev pub lines_of : List ℕ → List (List ℕ)
lines_of text = slice_split (λ c. eqb c 10) text

-- the lines from line n on, behind the bytes that are made already: each one's record goes behind them, while the script is not too long
abbrev pub assembled_from : ℕ → List ℕ → List (List ℕ) → Assembly
assembled_from n made [] = Made made
assembled_from n made (l ∷ ls) =
    elim (line_of l) [
      | Blank ↦ assembled_from (suc n) made ls
      | Bytes b ↦ cond (room script_bytes (length made) (length b)) (assembled_from (suc n) (made ++ b) ls) (WrongLine n LongScript)
      | Bad why ↦ WrongLine n why
    ]

unfoldable pub assembled : List ℕ → Assembly
assembled text = assembled_from 1 [] (lines_of text)

-- What the code answers, and what stands in front of the area: the script.
abbrev pub outcome : Assembly → Result ℕ Where
outcome (Made bytes) = Ok (length bytes)
outcome (WrongLine n why) = Err (record { line = n; reason = why })

abbrev pub made : Assembly → List ℕ
made (Made bytes) = bytes
made (WrongLine n why) = []

pub record Assembles (a : Assembly) (after : List ℕ) (r : Result ℕ Where) : Type 0 where
  pub answer : r ≡ outcome a
  pub front : take (length (made a)) after ≡ made a
