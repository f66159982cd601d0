-- What a record has written lies in the log's area. Assumes nothing.
use Rattle.std.specs.Prelude.{Ok, Err}
use Prim.Native.Nat.{ℕ, ◌≤◌}
use native.Mathlib.Omega.{arith}
use mathlib.Core.Path.{◌≡◌, ◌∙◌, refl, ap}
use mathlib.Core.List.{List}
use lib.ListN.{length}
use lib.Seq.{length-sets}
use Rattle.model.proofs.Terms.{ℕ_discrete, eqb, ltb, leb, log_bytes, script_bytes, Areas, Returned, Went, is_valid, with_log, overwritten, untouched, not_valid, returned, lent_step, script_over, went, lent_record, read_record, record_message, stop_bytes}
use Rattle.model.specs.declared.call.Call.{Call}
use Rattle.model.proofs.ListLaws.{by-test}
use Rattle.model.proofs.ByCase.{record-no-area}
use Rattle.message.proofs.Stores.{overwritten-sets}
use Rattle.log_bound.proofs.Theorems.{lent-record-log-fits}
use Rattle.run.specs.declared.Ran.{Ran}
use Rattle.run.specs.Runs.{ran}

overwritten-long : (l : List ℕ) (i : ℕ) (xs : List ℕ) → length (overwritten l i xs) ≡ length l
overwritten-long l i xs = ap length (overwritten-sets l i xs) ∙ length-sets l i xs

-- a call keeps the length of the log's area
step-long : (a : Areas) (c : Call) (bytes : List ℕ) → length (lent_step a c bytes).areas.log ≡ length a.log
unfolding lent_step returned not_valid untouched with_log
step-long a c bytes =
    let Long : Returned → Type 0 = λ r. length r.areas.log ≡ length a.log in
    by-test Long (eqb (length a.log) log_bytes) (λ l. by-test Long (is_valid a.words a.store a.outbox) (λ v. overwritten-long _ _ _) (λ v. overwritten-long _ _ _)) (λ l. refl)

-- and so does a record
record-long : (a : Areas) (script : List ℕ) (at : ℕ) → length (lent_record a script at).areas.log ≡ length a.log
unfolding lent_record script_over went with_log
record-long a script at =
    let Long : Went → Type 0 = λ r. length r.areas.log ≡ length a.log in
    by-test Long (eqb (length a.log) log_bytes) (λ l. by-test Long (ltb script_bytes (length script)) (λ t. overwritten-long _ _ _)
    (λ t. by-test Long (leb (length script) at) (λ e. overwritten-long _ _ _)
    (λ e. elim (read_record script at) as
    (λ r. Long (elim r [ Err stop ↦ script_over a (stop_bytes stop.offset) | Ok read ↦ went (lent_step a read.call (record_message script at)) read.next.at ]))
    [ Err stop ↦ overwritten-long _ _ _ | Ok read ↦ step-long a read.call (record_message script at) ]))) (λ l. refl)

-- so what was written is a front part of the area as it was left
pub written-fits : (a : Areas) (script : List ℕ) (at : ℕ) {b : Areas} {r : Ran} → ran r b ≡ lent_record a script at → r.written ≤ length b.log
written-fits a script at {b} {r} e =
    let w : r.written ≡ (lent_record a script at).written = ap (λ (x : Went). x.written) e in
    let l : length b.log ≡ length (lent_record a script at).areas.log = ap (λ (x : Went). length x.areas.log) e in
    omega (arith, w, l, record-long a script at, lent-record-log-fits a script at)

-- and never more than the area for a log is to have: in one of another length nothing is written
pub written-short : (a : Areas) (script : List ℕ) (at : ℕ) {b : Areas} {r : Ran} → ran r b ≡ lent_record a script at → r.written ≤ log_bytes
written-short a script at {b} {r} e =
    let w : r.written ≡ (lent_record a script at).written = ap (λ (x : Went). x.written) e in
    go (ℕ_discrete (length a.log) log_bytes) w
  where
    go : Dec (length a.log ≡ log_bytes) → r.written ≡ (lent_record a script at).written → r.written ≤ log_bytes
    go (yes h) w = omega (arith, w, h, lent-record-log-fits a script at)
    go (no h) w = omega (arith, w, ap (λ (x : Went). x.written) (record-no-area a script at h))
