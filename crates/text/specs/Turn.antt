-- The text of a turn: the line of a place, and below it what came of the record there.
use Rattle.std.specs.Prelude.{ℕ, zero, suc, ◌*◌, ◌-◌, List, [], ◌∷◌, ◌++◌, length, drop}
use Rattle.model.specs.declared.call.Progress.{Progress}
use Rattle.model.specs.declared.call.Progress.TheVariants.{Answered, Over, NoArea}
use Rattle.model.specs.Sizes.{log_bytes}
use Rattle.text.specs.Place.{place_line}
use Rattle.text.specs.Item.{item_bytes, item_line}
use Rattle.text.specs.Line.{line_bytes}

-- the lines of a log's items, of at most n; an item has at least its tag
abbrev pub item_lines : ℕ → List ℕ → List ℕ
item_lines zero log = []
item_lines (suc n) [] = []
item_lines (suc n) (tag ∷ rest) = item_line (tag ∷ rest) ++ item_lines n (drop (item_bytes tag - 1) rest)

unfoldable pub log_text : List ℕ → List ℕ
log_text log = item_lines (length log) log

-- where the script is over the place's line says why, and there are no more
abbrev pub outcome_lines : Progress → List ℕ → List ℕ
outcome_lines (Answered answer next) log = log_text log
outcome_lines Over log = []
outcome_lines NoArea log = []

unfoldable pub turn_text : List ℕ → ℕ → Progress → List ℕ → List ℕ
turn_text script at progress log = place_line script at ++ outcome_lines progress log

-- the area for it: a line for the place, and no more items than bytes of a log
abbrev pub text_bytes : ℕ
text_bytes = suc log_bytes * line_bytes

-- what has to unfold for the definitions of this file to compute
unfoldable pub compute_turn : Unit {0}
unfolding log_text turn_text
compute_turn = tt
