-- Demand 3: what is to be proved, each as a type; `Theorems` proves them.
use Rattle.std.specs.Prelude.{◌≤◌, ◌<◌, ◌≡◌, ◌≢◌, ◌∷◌, ◌++◌}
use Rattle.model.proofs.Terms.{ℕ, none, some, cond, List, [], length, get_or, ltb, log_bytes, script_bytes, tasks, ◌!◌, Queue, ready, locking, queue_order, running, From, Valid, word_count, words, fresh_lent, step, Ran, run_from, run, run_script, Areas, returned, lent_step, MutexEntry, Ledger, join, standing, ledger_priorities, ledger_order, ledger_runs}
use Rattle.model.specs.declared.call.Call.{Call}
use Rattle.preservation.specs.Entries.{Entry, AllFit, entries_of}
use Rattle.preservation.specs.Statements.{ValidAreas}
use Rattle.history.specs.History.{WithLedger, history}
use Rattle.history.specs.LentHistory.{Invocation, AreasWithLedger, lent_in, with_ledger_in, history_lent, AllInvocationsFit, call_in, calls_in}
use Rattle.history.specs.RecordByRecord.{RanLent, records_from}
use Rattle.history.specs.Reasons.{Has, wait_of, Reason}

-- "every started task's current priority, every waiting line's order and the running task equal what you get by throwing those away and working them out afresh
-- from base priorities, mutexes held, waits and joining order", circles of waiting tasks included: of dormant and absent tasks too, and of every queue
pub record Agrees (b : WithLedger) : Type 0 where
  pub valid : Valid b.lent
  pub priorities : b.lent.kernel.tasks.current ≡ ledger_priorities b.ledger
  pub orders : (q : Queue) → queue_order b.lent.kernel q ≡ ledger_order b.ledger q
  pub runs : running b.lent.kernel ≡ ledger_runs b.ledger

-- "After the list": any list of calls whose fields fit 32 bits, with any bytes, refused ones too
abbrev pub ListsAgree : Type 0
ListsAgree = (es : List Entry) → AllFit es → Agrees (history es)

-- "And across each call of the list a task's priority differs only if": one reason at least
abbrev pub Explained : WithLedger → WithLedger → ℕ → Type 0
Explained a b t = a.lent.kernel.tasks.current ! t ≢ b.lent.kernel.tasks.current ! t → Reason a.ledger b.ledger t

-- At each place of a list, where `result` says what each of its beginnings comes to: of a task that the ledger has before and after.
abbrev pub EachExplained : {A : Type 0} → (List A → WithLedger) → List A → Type 0
EachExplained {A} result list =
    (before behind : List A) (one : A) → list ≡ before ++ one ∷ behind
    → (t : ℕ) → Has (result before).ledger t → Has (result (before ++ one ∷ [])).ledger t → Explained (result before) (result (before ++ one ∷ [])) t

abbrev pub ListsAreExplained : Type 0
ListsAreExplained = (es : List Entry) → AllFit es → EachExplained history es

-- It holds of every number, whether the ledger has such a task or not: one that is created or deleted has a base that changes.
abbrev pub EveryNumberExplained : Type 0
EveryNumberExplained = (es : List Entry) (e : Entry) → AllFit (es ++ e ∷ []) → (t : ℕ) → Explained (history es) (history (es ++ e ∷ [])) t

-- ---- what the reasons are made of

-- The mutexes that a task holds are their numbers: one that the ledger has before and after a call keeps its attribute and ceiling.
abbrev pub MutexesKeepShape : Type 0
MutexesKeepShape =
    (es : List Entry) (e : Entry) → AllFit (es ++ e ∷ []) → (m : ℕ) (a b : MutexEntry)
    → get_or (history es).ledger.mutexes m none ≡ some a → get_or (history (es ++ e ∷ [])).ledger.mutexes m none ≡ some b
    → (a.attribute ≡ b.attribute) × (a.ceiling ≡ b.ceiling)

-- From ready to dormant is no change of wait,
abbrev pub ReadyIsNoWait : Type 0
ReadyIsNoWait = (l j : Ledger) (t : ℕ) → (standing l t).place < locking → (standing j t).place < locking → wait_of l t ≡ wait_of j t

-- and joining anew in the same line is none.
abbrev pub JoiningAnewIsNoChange : Type 0
JoiningAnewIsNoChange =
    (es : List Entry) → AllFit es → (t : ℕ) → From 1 tasks t → let l = (history es).ledger in ready ≤ (standing l t).place → wait_of (join l t (standing l t)) t ≡ wait_of l t

-- ---- scripts, whatever the bytes: a run of records of any length, and a script, which is not run if it is too long

-- a run leaves what the list of its records leaves
abbrev pub RunsAreHistory : Type 0
RunsAreHistory = (script : List ℕ) → (run fresh_lent script).lent ≡ (history (entries_of script)).lent

abbrev pub RunsAgree : Type 0
RunsAgree = (script : List ℕ) → Agrees (record { lent = (run fresh_lent script).lent; ledger = (history (entries_of script)).ledger })

abbrev pub RunsAreExplained : Type 0
RunsAreExplained = (script : List ℕ) → EachExplained history (entries_of script)

-- and one that is cut after some of its records leaves what the list of those leaves
abbrev pub RunsPassThrough : Type 0
RunsPassThrough = (script : List ℕ) (before behind : List Entry) → entries_of script ≡ before ++ behind → (run_from (length before) fresh_lent script 0).lent ≡ (history before).lent

abbrev pub entries_run : List ℕ → List Entry
entries_run script = cond (ltb script_bytes (length script)) [] (entries_of script)

abbrev pub ScriptsAreHistory : Type 0
ScriptsAreHistory = (script : List ℕ) → (run_script fresh_lent script).lent ≡ (history (entries_run script)).lent

abbrev pub ScriptsAgree : Type 0
ScriptsAgree = (script : List ℕ) → Agrees (record { lent = (run_script fresh_lent script).lent; ledger = (history (entries_run script)).ledger })

abbrev pub ScriptsAreExplained : Type 0
ScriptsAreExplained = (script : List ℕ) → EachExplained history (entries_run script)

-- ---- lent words, however the public functions are invoked on them: one call each time at most

abbrev pub OneCallAtMost : Type 0
OneCallAtMost = (i : Invocation) → length (call_in i) ≤ 1

-- the words and areas are valid, and what they hold agrees
pub record AgreesLent (b : AreasWithLedger) : Type 0 where
  pub valid : ValidAreas b.areas
  pub agrees : Agrees (with_ledger_in b)

abbrev pub LentListsAgree : Type 0
LentListsAgree = (is : List Invocation) → AllInvocationsFit is → AgreesLent (history_lent is)

abbrev pub LentListsAreExplained : Type 0
LentListsAreExplained = (is : List Invocation) → AllInvocationsFit is → EachExplained (λ js. with_ledger_in (history_lent js)) is

-- They hold what the list of the calls that are made leaves, and the ledger is the same.
abbrev pub LentIsHistory : Type 0
LentIsHistory = (is : List Invocation) → AllInvocationsFit is → with_ledger_in (history_lent is) ≡ history (calls_in is)

-- What is logged is the step whose ended waits the ledger is fed, where the words are a state's and the log's area has its length. A record's call is made through `lent_step`.
abbrev pub LentStepIsStep : Type 0
LentStepIsStep =
    (a : Areas) (c : Call) (bytes : List ℕ) → length a.words ≡ word_count → length a.log ≡ log_bytes → lent_step a c bytes ≡ returned a (step (lent_in a) c bytes)

-- ---- a script run record by record on lent areas: no whole log need be held

-- all that was written is the run's log, and the areas hold what the run leaves
pub record SameRun (r : RanLent) (s : Ran) : Type 0 where
  pub log : r.log ≡ s.log
  pub store : r.areas.store ≡ s.lent.store
  pub outbox : r.areas.outbox ≡ s.lent.outbox
  pub words : r.areas.words ≡ words s.lent.kernel

-- From any words of a state and any other areas, valid or not: -5 for each record where they are not, 8D alone for a script that is too long, nothing for
-- an empty one. As many turns as the script has bytes are enough, and more write nothing more.
abbrev pub RecordByRecordIsScript : Type 0
RecordByRecordIsScript =
    (a : Areas) (script : List ℕ) (n : ℕ) → length a.words ≡ word_count → length a.log ≡ log_bytes → length script ≤ n
    → SameRun (records_from n a script 0) (run_script (lent_in a) script)
