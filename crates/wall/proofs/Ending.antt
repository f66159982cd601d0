-- Where one record after the other ends. Assumes nothing.
use Prim.Native.Nat.{ℕ, suc, ◌+◌, ◌-◌, ◌≤◌, ◌<◌}
use native.Mathlib.Omega.{arith}
use mathlib.Core.Path.{◌≡◌, ◌∙◌, refl, sym, ap}
use mathlib.Core.Bool.{true}
use mathlib.Core.List.{List}
use Rattle.model.specs.declared.call.Answer.{Answer}
use Rattle.model.specs.declared.call.Cursor.{Cursor}
use Rattle.model.specs.declared.call.Progress.{Progress}
use Rattle.model.specs.declared.call.Progress.TheVariants as progress
use Rattle.model.specs.Sizes.{script_bytes}
use Rattle.model.specs.Lent.{Areas, Went, lent_record}
use Rattle.run.specs.declared.Ran.{Ran}
use Rattle.run.specs.Runs.{Runs}
use Rattle.run.specs.Turns.{is_done, turn_of}
use Rattle.run.proofs.Turning as turning
use Rattle.wall.specs.Walled.{and_place, place_from, end_of, RunsToEnd}

-- a script that is over stays where it is
stays : (w : Went) (at : ℕ) (rest : Areas → ℕ → ℕ) (p : Progress) → w.progress ≡ p → is_done ≡ turn_of p → and_place w at rest ≡ at
stays w at rest (progress.Answered answer next) e t = absurd (let z : ◌≡◌ {A = ℕ} 0 1 = cc in omega arith)
stays w at rest progress.Over e t = rw e
stays w at rest progress.NoArea e t = rw e

-- After so many records, any more of them leave the areas and the place that they leave from here on. There are no more than it takes for any script.
pub record Left (a₀ : Areas) (script : List ℕ) (a : Areas) (at turns : ℕ) : Type 0 where
  pub areas : turning.Left a₀ script a at turns
  pub places : (more : ℕ) → place_from (turns + more) a₀ script 0 ≡ place_from more a script at
  pub few : turns ≤ suc script_bytes

pub at_first : (a : Areas) (script : List ℕ) → Left a script a 0 0
at_first a script =
    record { areas = turning.at_first a script; places = λ more. let none : 0 + more ≡ more = omega arith in rw none; few = omega arith }

module _ (a₀ : Areas) (script : List ℕ) (a : Areas) (at turns : ℕ) (left : Left a₀ script a at turns) where
  module _ {b : Areas} {r : Ran} (h : Runs a script at b r) where
    -- the record is answered, and the script goes on
    pub goes_on : (answer : Answer) (next : Cursor) → turns < suc script_bytes → r.progress ≡ progress.Answered answer next → Left a₀ script b next.at (turns + 1)
    goes_on answer next inside e =
        record {
          areas = turning.goes_on a₀ script a at turns left.areas (turning.turned a script at true h refl) next (ap turn_of e);
          places = λ more.
              let one_more : turns + 1 + more ≡ turns + suc more = omega arith in
              let answered : (lent_record a script at).progress ≡ progress.Answered answer next = sym (ap (λ (w : Went). w.progress) h) ∙ e in
              rw one_more (left.places (suc more) ∙ rw (answered) (ap (λ (w : Went). place_from more w.areas script next.at) (sym h)));
          few = omega arith;
        }

    -- the script is over, at its end or where it stops
    pub ends : {p : Progress} → turns < suc script_bytes → r.progress ≡ p → is_done ≡ turn_of p → RunsToEnd a₀ script b at
    unfolding end_of
    ends {p} inside e t =
        let rest : turns + suc (script_bytes - turns) ≡ suc script_bytes = omega arith in
        let over : (lent_record a script at).progress ≡ p = sym (ap (λ (w : Went). w.progress) h) ∙ e in
        record {
          areas = turning.ends a₀ script a at turns left.areas (turning.turned a script at true h refl) (ap turn_of e ∙ sym t);
          end = sym (rw rest at (left.places (suc (script_bytes - turns))) ∙ stays (lent_record a script at) at (λ c i. place_from (script_bytes - turns) c script i) p over t);
        }

  pub all_done : suc script_bytes ≤ turns → RunsToEnd a₀ script a at
  unfolding end_of
  all_done enough =
      let rest : turns + 0 ≡ suc script_bytes = omega (arith, left.few) in
      record { areas = turning.all_done a₀ script a at turns left.areas enough; end = sym (rw rest at (left.places 0)) }
