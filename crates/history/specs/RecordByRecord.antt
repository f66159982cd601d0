-- A script run record by record on lent areas, through what the public function promises: no more than one record's log is ever held.
use Rattle.std.specs.Prelude.{◌++◌}
use Rattle.model.proofs.Terms.{ℕ, zero, suc, List, [], take, Areas, Went, lent_record}
use Rattle.model.specs.declared.call.Progress.TheVariants.{Answered, Over, NoArea}

-- What is left: all that was written, one log behind the other, and the areas at the end.
pub record RanLent : Type 0 where
  pub log : List ℕ
  pub areas : Areas

-- "Each record's log [..] goes to the front of a lent area": what one record has written is read there. Then the rest, from the next record's place,
-- on the areas that this one left; where the script is over, or there is no area for a log, there is none.
abbrev pub and_then : Went → (Areas → ℕ → RanLent) → RanLent
and_then w rest =
    let log = take w.written w.areas.log in
    elim w.progress [
      | Answered answer next ↦ let r = rest w.areas next.at in record { log = log ++ r.log; areas = r.areas }
      | Over ↦ record { log = log; areas = w.areas }
      | NoArea ↦ record { log = log; areas = w.areas }
    ]

-- at most n records, from a place of a script on
abbrev pub records_from : ℕ → Areas → List ℕ → ℕ → RanLent
records_from zero a script at = record { log = []; areas = a }
records_from (suc n) a script at = and_then (lent_record a script at) (λ b i. records_from n b script i)
