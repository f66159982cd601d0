-- What `show` hands over to be written. No contract can say that it is written; that it is the front of the area for it can be read in the code.
use Rattle.std.specs.Prelude.{ℕ, zero, suc, ◌<◌, ◌≡◌, List, [], ◌++◌, length, take}
use Rattle.model.specs.declared.call.Progress.TheVariants.{Answered, Over, NoArea}
use Rattle.model.specs.Sizes.{script_bytes, log_bytes}
use Rattle.model.specs.Words.{word_count}
use Rattle.model.specs.Step.{fresh_lent}
use Rattle.model.specs.Lent.{Areas, Went, lent_record}
use Rattle.history.specs.LentHistory.{lent_in}
use Rattle.text.specs.Turn.{turn_text}
use Rattle.text.specs.Whole.{script_text}
use Rattle.run.specs.Turns.{Turn, Turned}

-- the text of a turn, from what comes of the record
abbrev pub went_text : List ℕ → ℕ → Went → List ℕ
went_text script at w = turn_text script at w.progress (take w.written w.areas.log)

-- a text stands in front of an area
abbrev pub InFront : List ℕ → List ℕ → Type 0
InFront area text = take (length text) area ≡ text

-- A turn leaves the areas of the record and goes on as the record does, unless it answers that something could not be written; and its text stands in front of the area for it.
pub record ShowsTurn (a : Areas) (script : List ℕ) (at : ℕ) (b : Areas) (text : List ℕ) (r : Turn) : Type 0 where
  pub turned : Turned a script at b r
  pub front : InFront text (went_text script at (lent_record a script at))

-- a text, and the texts of the turns behind it, where there are any
abbrev pub and_texts : Went → List ℕ → (Areas → ℕ → List ℕ) → List ℕ
and_texts w text rest = elim w.progress [ Answered answer next ↦ text ++ rest w.areas next.at | Over ↦ text | NoArea ↦ text ]

-- at most n turns, from a place of a script on: their texts, one behind the other
abbrev pub texts_from : ℕ → Areas → List ℕ → ℕ → List ℕ
texts_from zero a script at = []
texts_from (suc n) a script at = let w = lent_record a script at in and_texts w (went_text script at w) (λ b i. texts_from n b script i)

-- From the fresh state the texts of all turns, of which there are more than a script has bytes (`RunsAll`), are the text of the whole script: of every script.
abbrev pub TextsAreScript : Type 0
TextsAreScript =
    (a : Areas) (script : List ℕ) (n : ℕ) → length a.words ≡ word_count → length a.log ≡ log_bytes → lent_in a ≡ fresh_lent → script_bytes < n
    → texts_from n a script 0 ≡ script_text script
