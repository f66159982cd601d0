-- One call and the ledger: what is to be proved, each as a type; `Theorems` proves them. `history` has demand 3 from them.
use Rattle.std.specs.Prelude.{◌≡◌}
use Rattle.model.proofs.Terms.{ℕ, ℤ, List, map, Ended, Kernel, facts, queue_order, running, Queue, Lent, fresh, Valid, step, FieldsFit, fresh_ledger, ledger_facts, ledger_priorities, ledger_order, ledger_runs, entered}
use Rattle.model.specs.declared.call.Call.{Call}
use Rattle.ledger.specs.Abstraction.{ledger_of}

-- "the ended waits in order with their codes"
abbrev pub ended_codes : List Ended → List (ℕ × ℤ)
ended_codes es = map (λ e. (e.task, e.code)) es

-- "It starts as the fresh bench."
abbrev pub FreshLedgerIs : Type 0
FreshLedgerIs = ledger_of fresh ≡ fresh_ledger

-- The ledger of a valid state gives that state's facts, and so its priorities, the order of every queue and the running task.
pub record Known (k : Kernel) : Type 0 where
  pub same_facts : ledger_facts (ledger_of k) ≡ facts k
  pub priorities : ledger_priorities (ledger_of k) ≡ k.tasks.current
  pub orders : (q : Queue) → ledger_order (ledger_of k) q ≡ queue_order k q
  pub runs : ledger_runs (ledger_of k) ≡ running k

abbrev pub LedgerKnows : Type 0
LedgerKnows = (x : Lent) → Valid x → Known x.kernel

-- One call from a valid state, its fields of 32 bits, refused or not: the ledger that is fed it, its answer and the ended waits is that of the state after it.
abbrev pub CallsAreEntered : Type 0
CallsAreEntered =
    (x : Lent) (c : Call) (bytes : List ℕ) → FieldsFit c → Valid x
    → entered (ledger_of x.kernel) c (step x c bytes).answer (ended_codes (step x c bytes).ended) ≡ ledger_of (step x c bytes).lent.kernel
