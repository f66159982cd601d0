-- A script at a place, in the order of the code's steps. Assumes nothing.
use Rattle.std.specs.Prelude.{Result, Ok, Err}
use Rattle.model.specs.declared.call.Record.{Record}
use Rattle.model.specs.declared.call.Stop.{Stop}
use Prim.Native.Nat.{ℕ, suc, ◌+◌, ◌≤◌, ◌<◌}
use native.Mathlib.Omega.{arith}
use mathlib.Core.Path.{◌≡◌, ◌∙◌, sym, ap}
use mathlib.Core.Logic.{◌≢◌}
use mathlib.Core.Bool.{Bool, true, false}
use mathlib.Core.List.{List, [], ◌∷◌}
use mathlib.Core.Option.{Option, none, some}
use lib.ListN.{length}
use lib.Dec.{leb}
use Rattle.model.specs.declared.call.Call.{Call}
use Rattle.model.specs.declared.call.Cursor.{Cursor}
use Rattle.model.specs.declared.call.Progress.TheVariants.{Answered, NoArea}
use Rattle.model.specs.Sizes.{log_bytes, script_bytes}
use Rattle.model.specs.Record.{found, stopped, Row, row_of, field, read_here, read_record, record_message}
use Rattle.model.specs.Log.{stop_bytes, too_long_bytes}
use Rattle.model.specs.Lent.{Areas, with_log, lent_step, script_over, went, lent_record}
use Rattle.model.proofs.ByCase.{record-no-area, record-too-long, record-end, record-stops, record-runs}
use Rattle.script.specs.Place.{Appends}
use Rattle.script.proofs.Appending.{front, none as no_bytes}
use Rattle.act.specs.Held.{areas}
use Rattle.call.specs.declared.Called.{Called}
use Rattle.call.specs.Calls.{called}
use Rattle.run.specs.Runs.{ran, is_over}

abbrev offset_in : Result Record Stop → ℕ
offset_in (Ok r) = 0
offset_in (Err stop) = stop.offset

-- a script stops where the record begins
stop-here : (at o : ℕ) (bytes : List ℕ) → read_here at bytes ≡ stopped o → o ≡ at
unfolding read_here
stop-here at o [] e = sym (ap offset_in e)
stop-here at o (kind ∷ body) e = known (row_of kind) e
  where
    cut : (r : Row) (b : Bool) → ◌≡◌ {A = Result Record Stop} (elim b [ true ↦ found (r.call (field body)) (record { at = suc (at + r.body) }) | false ↦ stopped at ]) (stopped o)
        → o ≡ at
    cut r true e = absurd (let z : ◌≡◌ {A = ℕ} 0 1 = cc in omega arith)
    cut r false e = sym (ap offset_in e)

    known : (row : Option Row)
        → ◌≡◌ {A = Result Record Stop} (elim row [
          | none ↦ stopped at
          | some r ↦
              elim (leb r.body (length body))
              [ true ↦ found (r.call (field body)) (record { at = suc (at + r.body) }) | false ↦ stopped at ]
        ]) (stopped o) → o ≡ at
    known none e = sym (ap offset_in e)
    known (some r) e = cut r (leb r.body (length body)) e

pub stop-offset : (script : List ℕ) (at : ℕ) {o : ℕ} → read_record script at ≡ stopped o → o ≡ at
unfolding read_record
stop-offset script at {o} e = stop-here at o _ e

module _ (a : Areas) (script : List ℕ) (at : ℕ) where
  pub runs-no-area : length a.log ≢ log_bytes → ran (record { progress = NoArea; written = 0 }) a ≡ lent_record a script at
  runs-no-area n = sym (record-no-area a script at n)

  -- the script is over, with these bytes of log
  ends_with : (bytes : List ℕ) {log : List ℕ} {n : ℕ} → length bytes ≤ length a.log → Appends a.log 0 bytes log n
      → ran (is_over n) (areas a.words a.store a.outbox log) ≡ script_over a bytes
  unfolding script_over with_log
  ends_with bytes {log} {n} h g =
      let f = front a.log bytes log n h g in
      λ i. record { progress = (is_over n).progress; written = f.1 i; areas = areas a.words a.store a.outbox (f.0 i) }

  module _ (size : length a.log ≡ log_bytes) where
    pub runs-too-long : {log : List ℕ} {n : ℕ} → script_bytes < length script → Appends a.log 0 too_long_bytes log n
        → ran (is_over n) (areas a.words a.store a.outbox log) ≡ lent_record a script at
    runs-too-long h g = ends_with too_long_bytes (rw size (omega arith)) g ∙ sym (record-too-long a script at size h)

    module _ (short : length script ≤ script_bytes) where
      pub runs-end : length script ≤ at → ran (is_over 0) a ≡ lent_record a script at
      runs-end h = ends_with [] (omega arith) (no_bytes a.log 0) ∙ sym (record-end a script at size short h)

      module _ (inside : at < length script) {read : Result Record Stop} (read_is : read ≡ read_record script at) where
        pub runs-stop : {o : ℕ} {log : List ℕ} {n : ℕ} → read ≡ stopped o → Appends a.log 0 (stop_bytes at) log n
            → ran (is_over n) (areas a.words a.store a.outbox log) ≡ lent_record a script at
        runs-stop e g =
            let s = sym read_is ∙ e in
            ends_with (stop_bytes at) (rw size (omega arith)) g
            ∙ ap (λ (o : ℕ). script_over a (stop_bytes o)) (sym (stop-offset script at s)) ∙ sym (record-stops a script at size short inside s)

        pub runs-record : {c : Call} {next : Cursor} {r : Called} {b : Areas} → read ≡ found c next
            → called r b ≡ lent_step a c (record_message script at)
            → ran (record { progress = Answered r.answer next; written = r.written }) b ≡ lent_record a script at
        unfolding went
        runs-record {next = next} e g =
            ap (λ w. went w next.at) g ∙ sym (record-runs a script at size short inside (sym read_is ∙ e))
