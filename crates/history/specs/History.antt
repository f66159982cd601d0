-- Demand 3's two sides over a list of calls: the state with its areas, and 01's ledger.
use Rattle.model.proofs.Terms.{List, foldl, Lent, fresh_lent, Ledger, fresh_ledger, entered}
use Rattle.preservation.specs.Entries.{Entry, outcome}
use Rattle.ledger.specs.Statements.{ended_codes}

-- a state with its areas, and the ledger beside it
pub record WithLedger : Type 0 where
  pub lent : Lent
  pub ledger : Ledger

-- One call. It gets the state and both areas as the last one left them; the ledger "sees only the calls, their answers and the waits they end".
unfoldable pub advance : WithLedger → Entry → WithLedger
advance b e =
    let o = outcome b.lent e in
    record { lent = o.lent; ledger = entered b.ledger e.call o.answer (ended_codes o.ended) }

-- the fresh state; the ledger "starts as the fresh bench"
unfoldable pub start : WithLedger
start = record { lent = fresh_lent; ledger = fresh_ledger }

unfoldable pub history : List Entry → WithLedger
history es = foldl advance start es
