-- All turns together hand over the text of the script. Assumes nothing.
use Rattle.std.specs.Prelude.{Result, Ok, Err}
use Rattle.model.specs.declared.call.Record.{Record}
use Rattle.model.specs.declared.call.Stop.{Stop}
use Rattle.model.specs.Record.{found, stopped}
use Rattle.model.proofs.Terms.{ℕ, zero, suc, ◌+◌, ◌≤◌, ◌<◌, dec_le, arith, ◌≡◌, ◌∙◌, refl, sym, ap, ap₂, List, [], ◌++◌, drop, length, length-drop, ◌!◌, log_bytes, script_bytes, running, word_count, step, read_record, record_message, outcome_log, Areas, returned, script_over, went, with_log, le-ltb, lt-ltb}
use mathlib.Core.List.{append-nil}
use Rattle.model.specs.declared.call.Call.{Call}
use Rattle.model.specs.declared.call.Cursor.{Cursor}
use Rattle.model.specs.Step.{fresh_lent}
use Rattle.model.specs.World.{Lent}
use Rattle.model.proofs.ByCase.{record-too-long, record-end, record-stops, record-runs}
use Rattle.state.proofs.WordLaws.{represents}
use Rattle.state.proofs.LentLaws.{lent-step}
use Rattle.script.proofs.Reading.{was_read, read_at, stop-at-end}
use Rattle.preservation.proofs.Theorems.{records-fit}
use Rattle.log_bound.proofs.Theorems.{record-log-fits}
use Rattle.history.specs.LentHistory.{lent_in}
use Rattle.history.proofs.RecordByRecord.{log-read, area-long, stays-sized, goes_on}
use Rattle.text.specs.Place.{place_line}
use Rattle.text.specs.Turn.{log_text, turn_text}
use Rattle.text.specs.Whole.{text_from, script_text}
use Rattle.show.specs.Shown.{texts_from, TextsAreScript}

-- the text of a script, where it stops and where a record is read
module _ (n : ℕ) (x : Lent) (script : List ℕ) (at : ℕ) where
  text-stops : {offset : ℕ} → read_record script at ≡ stopped offset → text_from (suc n) x script at ≡ place_line script at
  text-stops e = rw (e, text_from)

  text-goes-on : {c : Call} {next : Cursor} → read_record script at ≡ found c next
      → let o = step x c (record_message script at) in
      text_from (suc n) x script at ≡ (place_line script at ++ log_text (outcome_log (running x.kernel) o)) ++ text_from n o.lent script next.at
  text-goes-on e = rw (e, text_from)

module _ (script : List ℕ) (short : length script ≤ script_bytes) where
  -- a record that is read ends in the script
  ends-inside : (at : ℕ) (c : Call) (next : Cursor) → at < length script → read_record script at ≡ found c next → next.at ≤ length script
  ends-inside at c next inside e =
      let w = was_read at (script ! at) (drop (at + 1) script) c next (sym (read_at script at inside) ∙ e) in
      omega (arith, w.fits, w.end, length-drop (at + 1) script)

  -- both have turns enough for what is left of the script, and for its end
  abbrev Follows : ℕ → ℕ → Areas → ℕ → Type 0
  Follows m n a at =
      at ≤ length script → length script < at + m → length script < at + n → length a.words ≡ word_count → length a.log ≡ log_bytes
      → texts_from m a script at ≡ text_from n (lent_in a) script at

  follows : (m n : ℕ) (a : Areas) (at : ℕ) → Follows m n a at
  unfolding script_over went with_log returned turn_text
  follows zero n a at inside p q long log = absurd (omega (arith, inside, p))
  follows (suc m) zero a at inside p q long log = absurd (omega (arith, inside, q))
  follows (suc m) (suc n) a at inside p q long log = go (dec_le (length script) at) (read_record script at) refl (follows m n)
    where
      go : Dec (length script ≤ at) → (r : Result Record Stop) → read_record script at ≡ r → ((b : Areas) (i : ℕ) → Follows m n b i)
          → texts_from (suc m) a script at ≡ text_from (suc n) (lent_in a) script at
      go (yes h) r e rest = rw (record-end a script at log short h, text-stops n (lent_in a) script at (stop-at-end script at h)) (append-nil (place_line script at))
      go (no h) (Err stop) e rest = let offset = stop.offset in rw (record-stops a script at log short (omega arith) e, text-stops n (lent_in a) script at e) (append-nil (place_line script at))
      go (no h) (Ok read) e rest = let c = read.call in let next = read.next in
          let bytes = record_message script at in
          let o = step (lent_in a) c bytes in
          let written = outcome_log (running (lent_in a).kernel) o in
          let fits : length written ≤ length a.log = omega (arith, record-log-fits (running (lent_in a).kernel) (lent_in a) c bytes) in
          let r = represents _ (stays-sized a c bytes long (records-fit script at c next e)) in
          let on = goes_on script at c next (omega arith) e in
          let s =
          rw r.kernel at (rest (returned a o).areas next.at (ends-inside at c next (omega arith) e) (omega (arith, on)) (omega (arith, on)) r.length (area-long a.log written fits ∙ log))
          in
          rw (record-runs a script at log short (omega arith) e, lent-step a c bytes long log, text-goes-on n (lent_in a) script at e)
          (ap₂ (λ (l t : List ℕ). (place_line script at ++ log_text l) ++ t) (log-read a.log written fits) s)

module _ (script : List ℕ) where
  text-short : length script ≤ script_bytes → script_text script ≡ text_from (suc (length script)) fresh_lent script 0
  unfolding script_text
  text-short h = rw (le-ltb script_bytes (length script) h, script_text)

  text-too-long : script_bytes < length script → script_text script ≡ place_line script 0
  unfolding script_text
  text-too-long h = rw (lt-ltb script_bytes (length script) h, script_text)

pub texts-are-script : TextsAreScript
unfolding script_over turn_text
texts-are-script a script zero long log fresh enough = absurd (omega (arith, enough))
texts-are-script a script (suc n) long log fresh enough = go (dec_le (length script) script_bytes)
  where
    go : Dec (length script ≤ script_bytes) → texts_from (suc n) a script 0 ≡ script_text script
    go (yes short) =
        follows script short (suc n) (suc (length script)) a 0 (omega arith) (omega (arith, enough)) (omega arith) long log
        ∙ ap (λ (x : Lent). text_from (suc (length script)) x script 0) fresh ∙ sym (text-short script short)
    go (no h) =
        let over : script_bytes < length script = omega (arith, h) in
        rw (record-too-long a script 0 log over, text-too-long script over) (append-nil (place_line script 0))
