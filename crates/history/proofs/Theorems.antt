-- The statements of `Statements`, proved: each name is its statement's.
use Rattle.model.proofs.Terms.{ltb, le-ltb, lt-ltb, ◌≤◌, FieldsFit, Queue, Ledger, join, ℕ, zero, suc, subst, append-nil, dec_le, arith, ◌≡◌, ◌∙◌, refl, sym, ap, List, [], ◌∷◌, ◌++◌, foldl, foldl-append, append_assoc, cond, none, some, leb, length, lt-leb, script_bytes, locking, fresh, fresh_lent, too_long_bytes, run, run_script, with_log, script_over, standing}
use Rattle.model.proofs.ListLaws.{either}
use Rattle.model.proofs.ByCase.{script-runs, script-too-long, record-too-long}
use Rattle.state.proofs.WordLaws.{represents}
use Rattle.state.proofs.LentLaws.{lent-step}
use Rattle.preservation.specs.Entries.{Entry, AllFit, after, entries_of}
use Rattle.preservation.specs.Statements.{ValidAreas}
use Rattle.preservation.proofs.Theorems.{fresh-words-are-valid, fresh-is-valid, scripts-fit, runs-are-lists, valid-sized}
use Rattle.preservation.proofs.Validity.{valid-steady}
use Rattle.preservation.proofs.Records.{run_is, entries-part}
use Rattle.ledger.proofs.Lines.{joined-anew}
use Rattle.history.specs.History.{WithLedger, advance, start, history}
use Rattle.history.specs.LentHistory.{InvocationFits, AllInvocationsFit, Invocation, start_lent, lent_in, history_lent, with_ledger_in, call_in, calls_in}
use Rattle.history.specs.RecordByRecord.{records_from}
use Rattle.history.specs.Reasons.{wait_of}
use Rattle.history.specs.Statements.{RunsAreHistory, ScriptsAreHistory, OneCallAtMost, RunsPassThrough, Explained, ListsAgree, ListsAreExplained, EveryNumberExplained, MutexesKeepShape, ReadyIsNoWait, JoiningAnewIsNoChange, RunsAgree, RunsAreExplained, entries_run, ScriptsAgree, ScriptsAreExplained, LentListsAgree, LentListsAreExplained, LentIsHistory, LentStepIsStep, SameRun, RecordByRecordIsScript}
use Rattle.history.proofs.Lasting.{entries-last, call-lasts}
use Rattle.history.proofs.Reasons.{reason}
use Rattle.history.proofs.Lent.{calls-append, calls-fit, few-calls, lent-along}
use Rattle.history.proofs.RecordByRecord.{over-here, follows}
use Rattle.history.proofs.Along.{advances, history-along, agrees, of-state, every-part}

pub ready-is-no-wait : ReadyIsNoWait
unfolding wait_of
ready-is-no-wait l j t a b = rw (lt-leb locking (standing l t).place a, lt-leb locking (standing j t).place b)

pub joining-anew-is-no-change : JoiningAnewIsNoChange
unfolding wait_of
joining-anew-is-no-change es fit t r h =
    let l = (history-along es fit).1 in
    let stays = joined-anew (valid-steady (history es).lent (history-along es fit).0).invariant t r.0 r.1 (rw l at h) in
    ap (λ (q : Queue). cond (leb locking q.place) (some q) none) (subst (λ (j : Ledger). standing (join j t (standing j t)) t ≡ standing j t) (sym l) stays)

-- ---- lists of calls

pub lists_agree : ListsAgree
lists_agree es fit = agrees (history es) (history-along es fit)

pub every-number-explained : EveryNumberExplained
unfolding history advance
every-number-explained es e fit t =
    let f = every-part _ es (e ∷ []) fit in
    let b = history es in
    let h = history-along es f.0 in
    let c = advance b e in
    let n = advances b e f.1.0 h in
    rw (foldl-append advance start es (e ∷ []))
    (λ d. reason b.ledger c.ledger (of-state b h) (of-state c n) (rw h.1 (call-lasts b.lent h.0 e.call e.bytes)) t
    (λ q. d (cc ((agrees b h).priorities, (agrees c n).priorities))))

pub lists-are-explained : ListsAreExplained
lists-are-explained es fit before behind e is t _ _ = every-number-explained before e (every-part _ (before ++ e ∷ []) behind (rw append_assoc (rw is at fit))).0 t

pub mutexes-keep-shape : MutexesKeepShape
unfolding history advance
mutexes-keep-shape es e fit m a b x y =
    let f = every-part _ es (e ∷ []) fit in
    let h = history-along es f.0 in
    entries-last (history es).ledger (advance (history es) e).ledger (rw h.1 (call-lasts (history es).lent h.0 e.call e.bytes)) m a b x
    (rw (foldl-append advance start es (e ∷ [])) at y)

-- ---- scripts

lent-after : (es : List Entry) (b : WithLedger) → (foldl advance b es).lent ≡ after b.lent es
unfolding advance
lent-after [] b = refl
lent-after (e ∷ es) b = lent-after es (advance b e)

pub runs-are-history : RunsAreHistory
unfolding history start
runs-are-history script = runs-are-lists fresh_lent script ∙ sym (lent-after (entries_of script) start)

pub runs-agree : RunsAgree
runs-agree script = rw (runs-are-history script) (lists_agree (entries_of script) (scripts-fit script))

pub runs-are-explained : RunsAreExplained
runs-are-explained script = lists-are-explained (entries_of script) (scripts-fit script)

pub runs-pass-through : RunsPassThrough
unfolding history start entries_of
runs-pass-through script before behind e =
    run_is script (length before) fresh_lent 0 ∙ rw (entries-part script before (length script) 0 behind e, lent-after before start)

pub scripts-are-history : ScriptsAreHistory
unfolding history start
scripts-are-history script =
    elim (dec_le (length script) script_bytes) [
      | yes h ↦ rw (script-runs fresh_lent script h, le-ltb script_bytes (length script) h) (runs-are-history script)
      | no h ↦ rw (script-too-long fresh_lent script (omega arith), lt-ltb script_bytes (length script) (omega arith))
    ]

run_fits : (script : List ℕ) → AllFit (entries_run script)
run_fits script = either AllFit (ltb script_bytes (length script)) tt (scripts-fit script)

pub scripts-agree : ScriptsAgree
scripts-agree script = rw (scripts-are-history script) (lists_agree (entries_run script) (run_fits script))

pub scripts-are-explained : ScriptsAreExplained
scripts-are-explained script = lists-are-explained (entries_run script) (run_fits script)

-- ---- lent words

pub one-call-at-most : OneCallAtMost
one-call-at-most = few-calls

lent-history : (is : List Invocation) → AllInvocationsFit is → (with_ledger_in (history_lent is) ≡ history (calls_in is)) × ValidAreas (history_lent is).areas
unfolding history start history_lent start_lent fresh_lent
lent-history is fit =
    let h = lent-along is fit start_lent fresh-words-are-valid in
    (h.0 ∙ rw (represents fresh (valid-sized fresh_lent fresh-is-valid)).kernel, h.1)

pub lent-is-history : LentIsHistory
lent-is-history is fit = (lent-history is fit).0

pub lent-lists-agree : LentListsAgree
lent-lists-agree is fit = let h = lent-history is fit in record { valid = h.1; agrees = rw h.0 (lists_agree (calls_in is) (calls-fit is fit)) }

-- a call more, or none
one_more : (es fs : List Entry) → length fs ≤ 1 → AllFit (es ++ fs) → (t : ℕ) → Explained (history es) (history (es ++ fs)) t
one_more es [] few fit t = rw (append-nil es) (λ d. absurd (d refl))
one_more es (e ∷ []) few fit t = every-number-explained es e fit t
one_more es (e ∷ f ∷ fs) few fit t = absurd (omega arith)

pub lent-lists-are-explained : LentListsAreExplained
lent-lists-are-explained is fit before behind i list t _ _ =
    let all = (every-part (λ e. FieldsFit e.call) (calls_in before ++ call_in i) (calls_in behind) (rw append_assoc (rw (list, calls-append) at (calls-fit is fit)))).0 in
    let part = every-part InvocationFits (before ++ i ∷ []) behind (rw append_assoc (rw list at fit)) in
    let calls : calls_in (before ++ i ∷ []) ≡ calls_in before ++ call_in i = rw (calls-append, append-nil (call_in i)) in
    let then = lent-is-history (before ++ i ∷ []) part.0 ∙ ap history calls in
    subst (λ (x : WithLedger). Explained x (with_ledger_in (history_lent (before ++ i ∷ []))) t) (sym (lent-is-history before (every-part InvocationFits before (i ∷ []) part.0).0))
    (subst (λ (x : WithLedger). Explained (history (calls_in before)) x t) (sym then) (one_more (calls_in before) (call_in i) (few-calls i) all t))

pub lent-step-is-step : LentStepIsStep
lent-step-is-step a c bytes = lent-step a c bytes

pub record-by-record-is-script : RecordByRecordIsScript
unfolding run script_over with_log
record-by-record-is-script a script n long log enough = go (dec_le (length script) script_bytes) n enough
  where
    go : Dec (length script ≤ script_bytes) → (m : ℕ) → length script ≤ m → SameRun (records_from m a script 0) (run_script (lent_in a) script)
    go (yes h) m less = rw (script-runs (lent_in a) script h) (follows script h m (length script) a 0 less (omega arith) long log)
    go (no h) zero less = absurd (omega arith)
    go (no h) (suc m) less =
        rw (record-too-long a script 0 log (omega arith), script-too-long (lent_in a) script (omega arith)) (over-here a long too_long_bytes (omega arith))
