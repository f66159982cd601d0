-- The statements of `Statements`, proved: from what is counted in one call to the log of a record and of a script. Assumes nothing.
use Rattle.std.specs.Prelude.{Result, Ok, Err}
use Rattle.model.specs.declared.call.Record.{Record}
use Rattle.model.specs.declared.call.Stop.{Stop}
use Rattle.model.proofs.Terms.{ℕ, zero, suc, ◌+◌, ◌*◌, ◌-◌, ◌≤◌, dec_le, arith, ◌≡◌, ◌∙◌, refl, sym, ap, Bool, true, false, Option, none, some, List, [], ◌∷◌, map, length, drop, length-append, length-map, length-drop, ℤ, eqb, eqb-true, ltb, leb, message_bytes, log_bytes, script_bytes, ◌!◌, joined, E_SYS, Lent, Delivery, Nothing, Message, Block, Ended, running, first_refusal, refusals, effect, valid, word_count, kernel, Outcome, refused, step, fresh_lent, read_record, record_message, field, fields_of, answer_bytes, delivery_bytes, ended_bytes, runs_bytes, outcome_log, run_from, run, script_log, lent, Returned, Went, stop_bytes, is_valid, untouched, not_valid, returned, lent_step, script_over, went, lent_record}
use mathlib.Core.Bool.{and-eq-true_iff}
use Rattle.model.specs.Compute.{compute}
use Rattle.model.specs.declared.call.Call.{Call}
use Rattle.model.specs.declared.call.Answer.TheVariants.{Code, Waits, Exits}
use Rattle.model.proofs.ListLaws.{by-test, length-count_from}
use Rattle.model.proofs.ByCase.{step-refused, step-done, step-valid, step-not-valid, run-over, run-stops, run-goes-on, script-too-long, script-runs}
use Rattle.script.proofs.Rows.{fields_fit, fields_made}
use Rattle.script.proofs.Reading.{was_read, read_at}
use Rattle.message.proofs.Parts.{length-padded}
use Rattle.valid.specs.Agree.{valid-agrees}
use Rattle.log_bound.specs.Statements.{longest_answer, longest_delivery, ended_length, bytes_for_one, delivers, delivered, deliveries, waiting, EachWaitEndsOnce, FewWaitsEnd, OneDelivery, RecordLogIsShort, RecordLogFits, LentLogFits, LentRecordLogFits, ScriptLogIsShort, ScriptLogIsShortFrom, RunLogIsShort}
use Rattle.log_bound.proofs.Calls.{Bounded, performs}

-- ---- one record

module _ (x : Lent) (c : Call) (bytes : List ℕ) where
  refused-bounded : (e : ℤ) (n : ℕ) → Bounded x c (refused x e n)
  unfolding refused
  refused-bounded e n = record { each = λ t. omega arith; few = omega arith; once = omega arith; covered = omega arith }

  step-bounded : Bounded x c (step x c bytes)
  unfolding effect
  step-bounded = go (valid x) (first_refusal (refusals x.kernel c bytes)) refl refl
    where
      go : (b : Bool) (r : Option ℤ) → valid x ≡ b → first_refusal (refusals x.kernel c bytes) ≡ r → Bounded x c (step x c bytes)
      go false r v e = rw (step-not-valid x c bytes v) (refused-bounded E_SYS 0)
      go true (some r) v e = rw (step-valid x c bytes v, step-refused x c bytes e) (refused-bounded r (running x.kernel))
      go true none v e = rw (step-valid x c bytes v, step-done x c bytes e) (performs x ((valid-agrees x).0 v) c bytes e).drained

pub each-wait-ends-once : EachWaitEndsOnce
each-wait-ends-once x c bytes = (step-bounded x c bytes).each

pub few-waits-end : FewWaitsEnd
few-waits-end x c bytes = (step-bounded x c bytes).few

pub one-delivery : OneDelivery
one-delivery x c bytes = (step-bounded x c bytes).once

-- the items of its log
delivery-length : (t : ℕ) (d : Delivery) → length (delivery_bytes t d) ≤ longest_delivery * delivers d
unfolding delivery_bytes
delivery-length t Nothing = omega arith
delivery-length t (Message m) = omega (arith, length-padded message_bytes m)
delivery-length t (Block b) = omega arith

ended-length : (es : List Ended) → length (joined (map ended_bytes es)) ≤ ended_length * length es + longest_delivery * delivered es
unfolding ended_bytes
ended-length [] = omega arith
ended-length (e ∷ es) = rw (length-append, length-append) (omega (arith, delivery-length e.task e.delivery, ended-length es))

log-length : (caller : ℕ) (o : Outcome) → length (outcome_log caller o) ≤ bytes_for_one + ended_length * length o.ended + longest_delivery * deliveries o
unfolding outcome_log answer_bytes runs_bytes
log-length caller o =
    let answer = elim o.answer as (λ a. length (answer_bytes a) ≤ longest_answer) [ Code c ↦ omega arith | Waits ↦ omega arith | Exits ↦ omega arith ] in
    simp length-append (omega (arith, answer, delivery-length caller o.delivery, ended-length o.ended))

pub record-log-is-short : RecordLogIsShort
record-log-is-short caller x c bytes = omega (arith, log-length caller (step x c bytes), few-waits-end x c bytes, one-delivery x c bytes)

pub record-log-fits : RecordLogFits
record-log-fits caller x c bytes = omega (arith, record-log-is-short caller x c bytes)

-- ---- lent words

pub lent-log-fits : LentLogFits
unfolding lent_step is_valid returned not_valid untouched refused
lent-log-fits a c bytes =
    let x = lent a.words a.store a.outbox in
    let Fits : Returned → Type 0 = λ r. r.written ≤ length a.log in
    by-test Fits (eqb (length a.log) log_bytes) (λ l. by-test Fits (is_valid a.words a.store a.outbox)
    (λ e. let same = step-valid x c bytes ((and-eq-true_iff (eqb (length a.words) word_count) (valid x)).0 e).1 in
    omega (arith, eqb-true (length a.log) log_bytes l, rw same at (record-log-fits (running (kernel a.words)) x c bytes)))
    (λ e. omega (arith, eqb-true (length a.log) log_bytes l, log-length 0 (refused x E_SYS 0)))) (λ l. omega arith)

pub lent-record-log-fits : LentRecordLogFits
unfolding lent_record script_over went
lent-record-log-fits a script at =
    let Fits : Went → Type 0 = λ r. r.written ≤ length a.log in
    by-test Fits (eqb (length a.log) log_bytes) (λ l. let long = eqb-true (length a.log) log_bytes l in
    by-test Fits (ltb script_bytes (length script)) (λ e. omega arith) (λ e. by-test Fits (leb (length script) at) (λ e. omega arith)
    (λ e. elim (read_record script at) as
    (λ r. Fits (elim r [ Err stop ↦ script_over a (stop_bytes stop.offset) | Ok read ↦ went (lent_step a read.call (record_message script at)) read.next.at ]))
    [ Err stop ↦ omega arith | Ok read ↦ lent-log-fits a read.call (record_message script at) ]))) (λ l. omega arith)

-- ---- a script

-- a run from a place of a script on, of n records at most; a record takes a byte, and four for each field
abbrev Short : List ℕ → ℕ → Lent → ℕ → Type 0
Short script n x at = length (run_from n x script at).log ≤ bytes_for_one * (length script - at) + ended_length * waiting x.kernel

runs-short : (script : List ℕ) (n : ℕ) (x : Lent) (at : ℕ) → Short script n x at
runs-short script zero x at = omega arith
runs-short script (suc n) x at = go (dec_le (length script) at) (read_record script at) refl (runs-short script n)
  where
    go : Dec (length script ≤ at) → (r : Result Record Stop) → read_record script at ≡ r → ((y : Lent) (i : ℕ) → Short script n y i) → Short script (suc n) x at
    go (yes h) r e rest = rw (run-over n x script at h) (omega arith)
    go (no h) (Err stop) e rest = let offset = stop.offset in rw (run-stops n x script at (omega arith) e) (omega arith)
    go (no h) (Ok read) e rest = let c = read.call in let next = read.next in
        let o = step x c (record_message script at) in
        let paid = (step-bounded x c (record_message script at)).covered in
        let r = was_read at (script ! at) (drop (at + 1) script) c next (sym (read_at script at (omega arith)) ∙ e) in
        let made = ap length (fields_made (script ! at) r.row r.is (field (drop (at + 1) script))) in
        let fields = rw r.made at (simp (length-map, length-count_from) at made) in
        let size : (at + 1 + 4 * length (fields_of c) ≤ next.at) × (next.at ≤ length script) =
        omega (arith, fields_fit (script ! at) r.row r.is, length-drop (at + 1) script, r.fits, r.end) in
        rw (run-goes-on n x script at (omega arith) e, length-append) (omega (arith, log-length (running x.kernel) o, paid, size, rest o.lent next.at))

pub run-log-is-short : RunLogIsShort
unfolding run
run-log-is-short x script = omega (arith, runs-short script (length script) x 0)

pub script-log-is-short-from : ScriptLogIsShortFrom
script-log-is-short-from x script = elim (dec_le (length script) script_bytes)
    [ yes h ↦ rw (script-runs x script h) (run-log-is-short x script) | no h ↦ rw (script-too-long x script (omega arith)) (omega arith) ]

-- nobody waits in the fresh state
pub script-log-is-short : ScriptLogIsShort
unfolding script_log compute
script-log-is-short script = omega (arith, script-log-is-short-from fresh_lent script)
