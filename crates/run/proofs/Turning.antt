-- One turn after the other is the script record by record. Assumes nothing.
use Prim.Native.Nat.{ℕ, zero, suc, ◌+◌, ◌≤◌, ◌<◌}
use native.Mathlib.Omega.{arith}
use mathlib.Core.Path.{◌≡◌, ◌∙◌, refl, sym, ap}
use mathlib.Core.Logic.{◌≢◌}
use mathlib.Core.Bool.{Bool, true, false, false≢true}
use Rattle.std.specs.Prelude.{Result, Ok, Err, IsErr, is_ok}
use Rattle.run.specs.declared.turn.Unwritten.{Unwritten}
use mathlib.Core.List.{List}
use Rattle.model.specs.declared.call.Cursor.{Cursor}
use Rattle.model.specs.declared.call.Progress.{Progress}
use Rattle.model.specs.declared.call.Progress.TheVariants as progress
use Rattle.model.specs.Sizes.{script_bytes, log_bytes}
use Rattle.model.proofs.Terms.{dec_le, length, script_over}
use Rattle.model.proofs.ByCase.{record-too-long}
use Rattle.model.specs.Lent.{Areas, Went, lent_record}
use Rattle.history.specs.RecordByRecord.{RanLent, and_then, records_from}
use Rattle.history.proofs.Theorems.{record-by-record-is-script}
use Rattle.run.specs.declared.Ran.{Ran}
use Rattle.run.specs.Runs.{Runs}
use Rattle.run.specs.Turns.{Turn, goes_to, is_done, not_written, turn_of, turn_if, Turned, RunsAll, AllIsScript}

module _ (w : Went) (rest : Areas → ℕ → RanLent) where
  -- the record is answered, and what is left of the script follows
  answered : (next : Cursor) (p : Progress) → w.progress ≡ p → goes_to next ≡ turn_of p → (and_then w rest).areas ≡ (rest w.areas next.at).areas
  answered next (progress.Answered answer n) e t = let s : next ≡ n = cc in rw e (ap (λ (c : Cursor). (rest w.areas c.at).areas) (sym s))
  answered next progress.Over e t = absurd (let z : ◌≡◌ {A = ℕ} 0 1 = cc in omega arith)
  answered next progress.NoArea e t = absurd (let z : ◌≡◌ {A = ℕ} 0 1 = cc in omega arith)

  -- the script is over
  over : (p : Progress) → w.progress ≡ p → is_done ≡ turn_of p → (and_then w rest).areas ≡ w.areas
  over (progress.Answered answer n) e t = absurd (let z : ◌≡◌ {A = ℕ} 0 1 = cc in omega arith)
  over progress.Over e t = rw e
  over progress.NoArea e t = rw e

-- a record, and no more
alone : (w : Went) (script : List ℕ) (p : Progress) → w.progress ≡ p → (and_then w (λ b i. records_from 0 b script i)).areas ≡ w.areas
alone w script (progress.Answered answer n) e = rw e
alone w script progress.Over e = rw e
alone w script progress.NoArea e = rw e

on-is-written : (next : Cursor) → goes_to next ≢ not_written
on-is-written next e = let z : ◌≡◌ {A = ℕ} 0 1 = cc in omega arith

over-is-written : is_done ≢ not_written
over-is-written e = let z : ◌≡◌ {A = ℕ} 0 1 = cc in omega arith

module _ (left : ℕ) (a : Areas) (script : List ℕ) (at : ℕ) {b : Areas} {r : Turn} (h : Turned a script at b r) where
  turn_on : (next : Cursor) → r ≡ goes_to next → (records_from (suc left) a script at).areas ≡ (records_from left b script next.at).areas
  turn_on next e =
      answered (lent_record a script at) (λ c i. records_from left c script i) next (lent_record a script at).progress refl
      (sym e ∙ h.goes_on (λ u. on-is-written next (sym e ∙ u)))
      ∙ ap (λ (c : Areas). (records_from left c script next.at).areas) (sym h.areas)

  turn-over : r ≡ is_done → (records_from (suc left) a script at).areas ≡ b
  turn-over e =
      over (lent_record a script at) (λ c i. records_from left c script i) (lent_record a script at).progress refl (sym e ∙ h.goes_on (λ u. over-is-written (sym e ∙ u)))
      ∙ sym h.areas

-- ---- what a program does with what a record leaves

pub turn-unwritten : {written : Bool} (p : Progress) → written ≡ false → not_written ≡ turn_if written p
turn-unwritten p e = rw e

pub turn-written : {written : Bool} {p q : Progress} → written ≡ true → p ≡ q → turn_of q ≡ turn_if written p
turn-written e m = rw (e, m)

pub turned : (a : Areas) (script : List ℕ) (at : ℕ) {b : Areas} {r : Ran} {t : Turn} (written : Bool) → Runs a script at b r → t ≡ turn_if written r.progress
    → Turned a script at b t
turned a script at true e m = record { areas = ap (λ (w : Went). w.areas) e; goes_on = λ d. m ∙ ap (λ (w : Went). turn_of w.progress) e }
turned a script at false e m = record { areas = ap (λ (w : Went). w.areas) e; goes_on = λ d. absurd (d m) }

-- ---- all turns

-- After so many turns, what any more of them leave is what they leave from here on.
abbrev pub Left : Areas → List ℕ → Areas → ℕ → ℕ → Type 0
Left a₀ script a at turns = (more : ℕ) → (records_from (turns + more) a₀ script 0).areas ≡ (records_from more a script at).areas

pub at_first : (a : Areas) (script : List ℕ) → Left a script a 0 0
at_first a script more = let none : 0 + more ≡ more = omega arith in rw none

module _ (a₀ : Areas) (script : List ℕ) (a : Areas) (at turns : ℕ) (left : Left a₀ script a at turns) where
  module _ {b : Areas} {r : Turn} (h : Turned a script at b r) where
    pub goes_on : (next : Cursor) → r ≡ goes_to next → Left a₀ script b next.at (turns + 1)
    goes_on next e more =
        let one_more : turns + 1 + more ≡ turns + suc more = omega arith in
        rw one_more (left (suc more) ∙ turn_on more a script at h next e)

    pub ends : r ≡ is_done → RunsAll a₀ script b true
    ends e =
        record {
          turns = turns + suc script_bytes;
          areas = sym (left (suc script_bytes) ∙ turn-over script_bytes a script at h e);
          whole = λ w. omega arith;
        }

    pub unwritten : RunsAll a₀ script b false
    unwritten =
        record {
          turns = turns + 1;
          areas = h.areas ∙ sym (left 1 ∙ alone (lent_record a script at) script (lent_record a script at).progress refl);
          whole = λ w. absurd (let z : ◌≡◌ {A = ℕ} 0 1 = cc in omega arith);
        }

    -- the same where the program answers by an error
    pub cut-short : (e : Result Unit Unwritten) → IsErr e → RunsAll a₀ script b (is_ok e)
    cut-short (Ok x) f = absurd (false≢true f)
    cut-short (Err x) f = unwritten

  pub all_done : suc script_bytes ≤ turns → RunsAll a₀ script a true
  all_done enough =
      let none : turns + 0 ≡ turns = omega arith in
      record { turns = turns; areas = sym (rw none at (left 0)); whole = λ w. enough }

-- ---- all turns are the script

-- a script that is too long is over at once
over-at-once : (a : Areas) (script : List ℕ) (m n : ℕ) → length a.log ≡ log_bytes → script_bytes < length script → 0 < m → 0 < n
    → (records_from m a script 0).areas ≡ (records_from n a script 0).areas
unfolding script_over
over-at-once a script zero n log h p q = absurd (omega (arith, p))
over-at-once a script (suc m) zero log h p q = absurd (omega (arith, q))
over-at-once a script (suc m) (suc n) log h p q = rw (record-too-long a script 0 log h)

-- more turns than a script may have bytes are as good as one for each byte
enough : (a : Areas) (script : List ℕ) (n : ℕ) → length a.log ≡ log_bytes → script_bytes < n
    → Dec (length script ≤ script_bytes) → (m : ℕ) × ((length script ≤ m) × ((records_from n a script 0).areas ≡ (records_from m a script 0).areas))
enough a script n log more (yes short) = (n, (omega (arith, short, more), refl))
enough a script n log more (no h) =
    (length script, (omega arith, over-at-once a script n (length script) log (omega (arith, h)) (omega (arith, more)) (omega (arith, h))))

pub all-is-script : AllIsScript
all-is-script a script b words log r =
    let e = enough a script r.turns log (r.whole refl) (dec_le (length script) script_bytes) in
    let s = record-by-record-is-script a script e.0 words log e.1.0 in
    let same = r.areas ∙ e.1.1 in
    (ap (λ (c : Areas). c.words) same ∙ s.words, (ap (λ (c : Areas). c.store) same ∙ s.store, ap (λ (c : Areas). c.outbox) same ∙ s.outbox))
