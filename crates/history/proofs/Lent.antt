-- One invocation on lent words is a call on the state that they hold, or none.
use Rattle.std.specs.Prelude.{Result, Ok, Err}
use Rattle.model.specs.declared.call.Record.{Record}
use Rattle.model.specs.declared.call.Stop.{Stop}
use Rattle.model.proofs.Terms.{ℕ, eqb, ltb, ◌≤◌, ℕ_discrete, dec_le, arith, ◌≡◌, ◌∙◌, refl, sym, ap, some, List, [], ◌∷◌, ◌++◌, foldl, foldl-append, append_assoc, length, eq-eqb, ne_eqb, le-ltb, lt-ltb, le-leb, lt-leb, E_SYS, log_bytes, script_bytes, FieldsFit, read_record, record_message, Areas, with_log, untouched, returned, lent_step, script_over, went, entered}
use Rattle.model.specs.declared.call.Answer.TheVariants.{Code}
use Rattle.model.proofs.ListLaws.{either}
use Rattle.model.proofs.ByCase.{lent-untouched, record-no-area, record-too-long, record-end, record-stops, record-runs}
use Rattle.state.proofs.WordLaws.{represents}
use Rattle.state.proofs.LentLaws.{lent-step}
use Rattle.preservation.specs.Entries.{Entry, AllFit, entries_from}
use Rattle.preservation.specs.Statements.{ValidAreas}
use Rattle.preservation.proofs.Records.{entries_fit, entries-few}
use Rattle.preservation.proofs.Theorems.{records-fit, calls-keep-valid, valid-sized, areas-hold, lent-calls-keep-valid, lent-records-keep-valid}
use Rattle.history.proofs.Along.{every-both}
use Rattle.history.specs.History.{advance}
use Rattle.history.specs.LentHistory.{Invocation, OfCall, OfRecord, lending, invoked, lent_in, AreasWithLedger, told, advance_lent, with_ledger_in, call_in, InvocationFits, AllInvocationsFit, calls_in, log_of, call_of}

-- what an invocation comes to is what its call does, if it makes one
abbrev MakesItsCall : AreasWithLedger → Invocation → Type 0
MakesItsCall b i = with_ledger_in (advance_lent b i) ≡ foldl advance (with_ledger_in b) (call_in i)

module _ (b : AreasWithLedger) (v : ValidAreas b.areas) where
  made : (e : Entry) (log : List ℕ) → length log ≡ log_bytes → FieldsFit e.call
      → let r = lent_step (lending b.areas log) e.call e.bytes in
      with_ledger_in (record { areas = r.areas; ledger = told b.ledger (lent_in b.areas) (e ∷ []) (some r.answer) }) ≡ advance (with_ledger_in b) e
  unfolding advance returned with_log
  made e log long fit =
      let h = areas-hold b.areas v in
      let r = represents _ (valid-sized _ (calls-keep-valid (lent_in b.areas) e.call e.bytes fit h.1)) in
      rw (lent-step (lending b.areas log) e.call e.bytes h.0 long) (rw r.kernel)

  -- the answer -5 is entered nowhere
  untold : (es : List Entry) → told b.ledger (lent_in b.areas) es (some (Code E_SYS)) ≡ b.ledger
  unfolding entered
  untold [] = refl
  untold (e ∷ es) = refl

  one-invoked : (i : Invocation) → InvocationFits i → MakesItsCall b i
  unfolding advance_lent invoked untouched script_over went with_log entered
  one-invoked (OfCall e log) fit =
      elim (ℕ_discrete (length log) log_bytes) [
        | no d ↦ rw (lent-untouched (lending b.areas log) e.call e.bytes d, ne_eqb (length log) log_bytes d)
        | yes l ↦ rw (eq-eqb (length log) log_bytes l) (made e log l fit)
      ]
  one-invoked (OfRecord script at log) fit =
      go (ℕ_discrete (length log) log_bytes) (dec_le (length script) script_bytes) (dec_le (length script) at) (read_record script at) refl
    where
      a : Areas
      a = lending b.areas log

      go : Dec (length log ≡ log_bytes) → Dec (length script ≤ script_bytes) → Dec (length script ≤ at) → (r : Result Record Stop) → read_record script at ≡ r → MakesItsCall b (OfRecord script at log)
      go (no d) n h r e = rw (record-no-area a script at d, ne_eqb (length log) log_bytes d, untold (call_of (OfRecord script at log)))
      go (yes l) (no n) h r e = rw (record-too-long a script at l (omega arith), eq-eqb (length log) log_bytes l, lt-ltb script_bytes (length script) (omega arith))
      go (yes l) (yes n) (yes h) r e =
          rw (record-end a script at l n h, eq-eqb (length log) log_bytes l, le-ltb script_bytes (length script) n, le-leb (length script) at h, entries_from)
      go (yes l) (yes n) (no h) (Err stop) e = let offset = stop.offset in
          rw (record-stops a script at l n (omega arith) e, eq-eqb (length log) log_bytes l, le-ltb script_bytes (length script) n, lt-leb (length script) at (omega arith), e, entries_from)
      go (yes l) (yes n) (no h) (Ok read) e = let c = read.call in let next = read.next in
          rw (record-runs a script at l n (omega arith) e, eq-eqb (length log) log_bytes l, le-ltb script_bytes (length script) n, lt-leb (length script) at (omega arith), e, entries_from)
          (made (record { call = c; bytes = record_message script at }) log l (records-fit script at c next e))

  stays-valid : (i : Invocation) → InvocationFits i → ValidAreas (advance_lent b i).areas
  unfolding advance_lent invoked
  stays-valid (OfCall e log) fit = lent-calls-keep-valid (lending b.areas log) e.call e.bytes fit v
  stays-valid (OfRecord script at log) fit = lent-records-keep-valid (lending b.areas log) script at v

-- ---- several

pub calls-append : (is js : List Invocation) → calls_in (is ++ js) ≡ calls_in is ++ calls_in js
calls-append [] js = refl
calls-append (i ∷ is) js = ap (λ (es : List Entry). call_in i ++ es) (calls-append is js) ∙ sym (append_assoc (call_in i) (calls_in is) (calls_in js))

-- the calls that are made fit; of one invocation there is one at most
pub calls-fit : (is : List Invocation) → AllInvocationsFit is → AllFit (calls_in is)
calls-fit [] fit = tt
calls-fit (i ∷ is) fit = every-both _ (call_in i) (calls_in is) (either AllFit (eqb (length (log_of i)) log_bytes) (one i fit.0) tt) (calls-fit is fit.1)
  where
    one : (j : Invocation) → InvocationFits j → AllFit (call_of j)
    one (OfCall e log) f = (f, tt)
    one (OfRecord script at log) f = either AllFit (ltb script_bytes (length script)) tt (entries_fit script 1 at)

pub few-calls : (i : Invocation) → length (call_in i) ≤ 1
few-calls i = either (λ (es : List Entry). length es ≤ 1) (eqb (length (log_of i)) log_bytes) (one i) (omega arith)
  where
    one : (j : Invocation) → length (call_of j) ≤ 1
    one (OfCall e log) = omega arith
    one (OfRecord script at log) = either (λ (es : List Entry). length es ≤ 1) (ltb script_bytes (length script)) (omega arith) (entries-few script 1 at)

pub lent-along : (is : List Invocation) → AllInvocationsFit is → (b : AreasWithLedger) → ValidAreas b.areas
    → let c = foldl advance_lent b is in (with_ledger_in c ≡ foldl advance (with_ledger_in b) (calls_in is)) × ValidAreas c.areas
lent-along [] fit b v = (refl, v)
lent-along (i ∷ is) fit b v =
    let r = lent-along is fit.1 (advance_lent b i) (stays-valid b v i fit.0) in
    (r.0 ∙ ap (λ c. foldl advance c (calls_in is)) (one-invoked b v i fit.0) ∙ sym (foldl-append advance (with_ledger_in b) (call_in i) (calls_in is)), r.1)
