-- A script run record by record on lent areas leaves what the definitions' run leaves, and writes its log.
use Rattle.std.specs.Prelude.{Result, Ok, Err}
use Rattle.model.specs.declared.call.Record.{Record}
use Rattle.model.specs.declared.call.Stop.{Stop}
use Rattle.model.specs.Record.{found}
use Rattle.model.proofs.Terms.{ℕ, zero, suc, ◌+◌, ◌≤◌, ◌<◌, dec_le, arith, ◌≡◌, ◌∙◌, refl, sym, ap, ap₂, Bool, true, false, List, [], ◌∷◌, ◌++◌, take, drop, length, length-append, length-drop, length-take, ◌!◌, log_bytes, script_bytes, over, overwritten, running, valid, word_count, refused, FieldsFit, step, read_record, record_message, stop_bytes, outcome_log, ran, run_from, Areas, with_log, returned, script_over, went}
use Rattle.model.specs.declared.call.Call.{Call}
use Rattle.model.specs.declared.call.Cursor.{Cursor}
use Rattle.model.proofs.ByCase.{step-not-valid, record-end, record-stops, record-runs, run-over, run-stops, run-goes-on}
use Rattle.state.proofs.WordLaws.{Sized, sized, words-kernel, represents}
use Rattle.state.proofs.LentLaws.{lent-step}
use Rattle.script.proofs.Reading.{was_read, read_at}
use Rattle.valid.specs.Agree.{valid-agrees}
use Rattle.preservation.proofs.Theorems.{records-fit, calls-keep-valid, valid-sized}
use Rattle.log_bound.proofs.Theorems.{record-log-fits}
use Rattle.history.specs.LentHistory.{lent_in}
use Rattle.history.specs.RecordByRecord.{records_from}
use Rattle.history.specs.Statements.{SameRun}

-- ---- a log in its area

-- bytes that fit are read back from the front, and the area keeps its length
read_back : (bytes rest : List ℕ) (n : ℕ) → length bytes ≤ n → take (length bytes) (take n (bytes ++ rest)) ≡ bytes
read_back [] rest n h = refl
read_back (b ∷ bytes) rest zero h = absurd (omega arith)
read_back (b ∷ bytes) rest (suc n) h = ap (λ (l : List ℕ). b ∷ l) (read_back bytes rest n (omega arith))

module _ (area log : List ℕ) (fits : length log ≤ length area) where
  pub log-read : take (length log) (overwritten area 0 log) ≡ log
  unfolding overwritten over
  log-read = read_back log (drop (0 + length log) area) (length area) fits

  pub area-long : length (overwritten area 0 log) ≡ length area
  unfolding overwritten over
  area-long = rw (length-take, length-append, length-drop) (omega arith)

-- ---- the words

-- words of a state stay so, valid or not

pub stays-sized : (a : Areas) (c : Call) (bytes : List ℕ) → length a.words ≡ word_count → FieldsFit c → Sized (step (lent_in a) c bytes).lent.kernel
unfolding refused
stays-sized a c bytes long fit = go (valid (lent_in a)) refl
  where
    go : (b : Bool) → valid (lent_in a) ≡ b → Sized (step (lent_in a) c bytes).lent.kernel
    go true v = valid-sized _ (calls-keep-valid (lent_in a) c bytes fit ((valid-agrees (lent_in a)).0 v))
    go false v = rw (step-not-valid (lent_in a) c bytes v) (sized a.words long)

-- ---- record by record

module _ (a : Areas) (long : length a.words ≡ word_count) where
  -- where nothing is run
  not-run : SameRun (record { log = []; areas = a }) (ran [] (lent_in a))
  not-run = record { log = refl; store = refl; outbox = refl; words = sym (words-kernel a.words long) }

  -- where the script is over, with these bytes of log
  pub over-here : (log : List ℕ) → length log ≤ length a.log
      → SameRun (record { log = take (length log) (overwritten a.log 0 log); areas = with_log a log }) (ran log (lent_in a))
  unfolding with_log
  over-here log fits = record { log = log-read a.log log fits; store = refl; outbox = refl; words = sym (words-kernel a.words long) }

module _ (script : List ℕ) where
  -- a record takes a byte at least
  pub goes_on : (at : ℕ) (c : Call) (next : Cursor) → at < length script → read_record script at ≡ found c next → at < next.at
  goes_on at c next inside e = omega (arith, (was_read at (script ! at) (drop (at + 1) script) c next (sym (read_at script at inside) ∙ e)).end)

  -- the run has turns enough for what is left of the script; on lent areas there are as many or more
  abbrev Follows : ℕ → ℕ → Areas → ℕ → Type 0
  Follows m n a at =
      n ≤ m → length script ≤ at + n → length a.words ≡ word_count → length a.log ≡ log_bytes
      → SameRun (records_from m a script at) (run_from n (lent_in a) script at)

  module _ (short : length script ≤ script_bytes) where
    pub follows : (m n : ℕ) (a : Areas) (at : ℕ) → Follows m n a at
    unfolding script_over went with_log returned
    follows zero zero a at less enough long log = not-run a long
    follows zero (suc n) a at less enough long log = absurd (omega arith)
    follows (suc m) zero a at less enough long log = rw (record-end a script at log short (omega arith)) (over-here a long [] (omega arith))
    follows (suc m) (suc n) a at less enough long log = go (dec_le (length script) at) (read_record script at) refl (follows m n)
      where
        go : Dec (length script ≤ at) → (r : Result Record Stop) → read_record script at ≡ r → ((b : Areas) (i : ℕ) → Follows m n b i)
            → SameRun (records_from (suc m) a script at) (run_from (suc n) (lent_in a) script at)
        go (yes h) r e rest = rw (record-end a script at log short h, run-over n (lent_in a) script at h) (over-here a long [] (omega arith))
        go (no h) (Err stop) e rest = let offset = stop.offset in
            rw (record-stops a script at log short (omega arith) e, run-stops n (lent_in a) script at (omega arith) e)
            (over-here a long (stop_bytes offset) (omega arith))
        go (no h) (Ok read) e rest = let c = read.call in let next = read.next in
            let bytes = record_message script at in
            let o = step (lent_in a) c bytes in
            let written = outcome_log (running (lent_in a).kernel) o in
            let fits : length written ≤ length a.log = omega (arith, record-log-fits (running (lent_in a).kernel) (lent_in a) c bytes) in
            let r = represents _ (stays-sized a c bytes long (records-fit script at c next e)) in
            let behind : length script ≤ next.at + n = omega (arith, goes_on at c next (omega arith) e) in
            let s = rw r.kernel at (rest (returned a o).areas next.at (omega arith) behind r.length (area-long a.log written fits ∙ log)) in
            rw (record-runs a script at log short (omega arith) e, lent-step a c bytes long log, run-goes-on n (lent_in a) script at (omega arith) e)
            (record { log = ap₂ ◌++◌ (log-read a.log written fits) s.log; store = s.store; outbox = s.outbox; words = s.words })
