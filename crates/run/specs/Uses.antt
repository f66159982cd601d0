-- Demand 3 of what runs. The public functions are used one after the other, in any order, on one state and its areas; of each use only that is known which the function's own
-- contract promises.
use Rattle.std.specs.Prelude.{ℕ, ◌≡◌, length, Result}
use Rattle.std.proofs.Math.Option.{Option, some}
use mathlib.Core.List.{List, [], ◌∷◌, foldl}
use Rattle.model.specs.declared.call.Answer.{Answer}
use Rattle.model.specs.Sizes.{store_bytes, outbox_bytes}
use Rattle.model.specs.Lists.{zeros}
use Rattle.model.specs.Words.{word_count}
use Rattle.model.specs.Lent.{Areas, progress_answer}
use Rattle.model.specs.Ledger.{fresh_ledger}
use Rattle.state.specs.declared.WrongLength.{WrongLength}
use Rattle.state.specs.Fresh.{Filling}
use Rattle.preservation.specs.Entries.{Entry, Every}
use Rattle.history.specs.LentHistory.{Invocation, OfCall, OfRecord, call_of, lending, lent_in, AreasWithLedger, told, with_ledger_in, InvocationFits}
use Rattle.history.specs.Statements.{AgreesLent, EachExplained}
use Rattle.call.specs.declared.Called.{Called}
use Rattle.call.specs.Calls.{Answers}
use Rattle.run.specs.declared.Ran.{Ran}
use Rattle.run.specs.Runs.{Runs}

-- A use: what was handed in beside state, store and outbox, what came back, and every area as the function left it.
pub data Use : Type 0 where
  -- of `call::call`: the call with its message bytes, and the area for the log
  UsedCall : Entry → List ℕ → Called → Areas → Use
  -- of `run::run_record`: the script, the place in it, and the area for the log
  UsedRecord : List ℕ → ℕ → List ℕ → Ran → Areas → Use

-- what was handed in
abbrev pub invocation : Use → Invocation
invocation (UsedCall e log r b) = OfCall e log
invocation (UsedRecord script at log r b) = OfRecord script at log

-- the areas as they were left
abbrev pub left : Use → Areas
left (UsedCall e log r b) = b
left (UsedRecord script at log r b) = b

-- the answer that came back, if there is one
abbrev pub came_back : Use → Option Answer
came_back (UsedCall e log r b) = some r.answer
came_back (UsedRecord script at log r b) = progress_answer r.progress

-- The function's contract: the very definition that it ensures, on the areas `a`.
abbrev pub Promised : Areas → Use → Type 0
Promised a (UsedCall e log r b) = Answers (lending a log) e.call e.bytes b r
Promised a (UsedRecord script at log r b) = Runs (lending a log) script at b r

-- one use after the other, each on the state, store and outbox that the one before left
abbrev pub AllPromised : Areas → List Use → Type 0
AllPromised a [] = Unit {0}
AllPromised a (u ∷ us) = Promised a u × AllPromised (left u) us

-- The areas after a use, and the ledger, fed the answer that came back; the ended waits are those of the step whose log is written (`LentStepIsStep`), not read back from its bytes.
abbrev pub after_use : AreasWithLedger → Use → AreasWithLedger
after_use b u = record { areas = left u; ledger = told b.ledger (lent_in b.areas) (call_of (invocation u)) (came_back u) }

-- Words that `state::fresh` has filled, or `state::make_fresh`, which the programs call: both promise `Filling`. Zero areas, and the fresh ledger.
pub record Begun (b : AreasWithLedger) : Type 0 where
  pub lent : List ℕ
  pub answer : Result Unit WrongLength
  pub sized : length lent ≡ word_count
  pub filled : Filling lent answer b.areas.words
  pub store : b.areas.store ≡ zeros store_bytes
  pub outbox : b.areas.outbox ≡ zeros outbox_bytes
  pub ledger : b.ledger ≡ fresh_ledger

-- "Demand 3 is a single claim about the whole list": after any uses, refused calls among them, the words and areas are valid, and priorities, the order of every queue and the
-- running task are those that the ledger gives worked out afresh.
abbrev pub UsesAgree : Type 0
UsesAgree = (b : AreasWithLedger) (us : List Use) → Begun b → Every (λ u. InvocationFits (invocation u)) us → AllPromised b.areas us → AgreesLent (foldl after_use b us)

-- "Demand 3's last sentence", across each use
abbrev pub UsesAreExplained : Type 0
UsesAreExplained =
    (b : AreasWithLedger) (us : List Use) → Begun b → Every (λ u. InvocationFits (invocation u)) us → AllPromised b.areas us
    → EachExplained (λ vs. with_ledger_in (foldl after_use b vs)) us
