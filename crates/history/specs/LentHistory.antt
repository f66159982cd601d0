-- The same on lent words, through what the public functions promise: `lent_step` for a call, `lent_record` for the record at a place of a script.
use Rattle.std.specs.Prelude.{◌∷◌, ◌++◌}
use Rattle.model.proofs.Terms.{ℕ, cond, Option, none, some, List, [], foldl, length, eqb, ltb, log_bytes, script_bytes, store_bytes, outbox_bytes, zeros, fresh, Lent, words, FieldsFit, Areas, lent, lent_step, lent_record, progress_answer, Ledger, fresh_ledger, entered}
use Rattle.model.specs.declared.call.Answer.{Answer}
use Rattle.preservation.specs.Entries.{Entry, Every, outcome, entries_from}
use Rattle.ledger.specs.Statements.{ended_codes}
use Rattle.history.specs.History.{WithLedger}

-- A public function is invoked, each time with an area for the log, of any length, that holds anything.
pub data Invocation : Type 0 where
  OfCall : Entry → List ℕ → Invocation
  OfRecord : List ℕ → ℕ → List ℕ → Invocation

abbrev pub log_of : Invocation → List ℕ
log_of (OfCall e log) = log
log_of (OfRecord script at log) = log

-- the call that is meant, if any: a record may be none, where its script is too long, at its end or at a stop
abbrev pub call_of : Invocation → List Entry
call_of (OfCall e log) = e ∷ []
call_of (OfRecord script at log) = cond (ltb script_bytes (length script)) [] (entries_from 1 script at)

-- the areas with that for the log
abbrev pub lending : Areas → List ℕ → Areas
lending a log = record { words = a.words; store = a.store; outbox = a.outbox; log = log }

-- what is left of the areas, and the answer if there is one
unfoldable pub invoked : Areas → Invocation → Areas × Option Answer
invoked a (OfCall e log) = let r = lent_step (lending a log) e.call e.bytes in (r.areas, some r.answer)
invoked a (OfRecord script at log) = let w = lent_record (lending a log) script at in (w.areas, progress_answer w.progress)

-- what a call finds in the words and areas
abbrev pub lent_in : Areas → Lent
lent_in a = lent a.words a.store a.outbox

pub record AreasWithLedger : Type 0 where
  pub areas : Areas
  pub ledger : Ledger

-- The ledger is fed the call, the answer that comes back, and the ended waits of the step that the call makes and logs. Where the log's area has another length no step is
-- made; then the answer is negative, and nothing is entered.
abbrev pub told : Ledger → Lent → List Entry → Option Answer → Ledger
told l x [] answer = l
told l x (e ∷ es) none = l
told l x (e ∷ es) (some answer) = entered l e.call answer (ended_codes (outcome x e).ended)

unfoldable pub advance_lent : AreasWithLedger → Invocation → AreasWithLedger
advance_lent b i = let r = invoked b.areas i in record { areas = r.0; ledger = told b.ledger (lent_in b.areas) (call_of i) r.1 }

-- the words of the fresh state, and zero areas
unfoldable pub start_lent : AreasWithLedger
start_lent = record { areas = record { words = words fresh; store = zeros store_bytes; outbox = zeros outbox_bytes; log = [] }; ledger = fresh_ledger }

unfoldable pub history_lent : List Invocation → AreasWithLedger
history_lent is = foldl advance_lent start_lent is

-- the state that the words and areas hold, with the ledger
abbrev pub with_ledger_in : AreasWithLedger → WithLedger
with_ledger_in b = record { lent = lent_in b.areas; ledger = b.ledger }

-- the call that is made, if one is: "with an area of another length nothing is done"; and all of them
abbrev pub call_in : Invocation → List Entry
call_in i = cond (eqb (length (log_of i)) log_bytes) (call_of i) []

abbrev pub calls_in : List Invocation → List Entry
calls_in [] = []
calls_in (i ∷ is) = call_in i ++ calls_in is

-- "Fields are signed 32-bit": of a call that is handed over; every record's do
abbrev pub InvocationFits : Invocation → Type 0
InvocationFits (OfCall e log) = FieldsFit e.call
InvocationFits (OfRecord script at log) = Unit {0}

abbrev pub AllInvocationsFit : List Invocation → Type 0
AllInvocationsFit = Every InvocationFits
