-- What comes of a script at a place.
use Rattle.std.specs.Prelude.{ℕ, ◌≡◌, List}
use Rattle.model.specs.declared.call.Progress.TheVariants.{Over}
use Rattle.model.specs.Lent.{Areas, Went, lent_record}
use Rattle.run.specs.declared.Ran.{Ran}

-- how it goes on and the bytes written, with the areas
abbrev pub ran : Ran → Areas → Went
ran r b = record { progress = r.progress; written = r.written; areas = b }

-- The promise of the public function: how the script goes on, the bytes written and every area are those of the record on lent words.
abbrev pub Runs : Areas → List ℕ → ℕ → Areas → Ran → Type 0
Runs a script at b r = ran r b ≡ lent_record a script at

abbrev pub is_over : ℕ → Ran
is_over n = record { progress = Over; written = n }
