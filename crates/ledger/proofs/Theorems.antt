-- The statements of `Statements`, proved: each name is its statement's.
use Rattle.model.proofs.Terms.{◌≡◌, ◌∙◌, refl, none, some, List, [], ℕ, fresh, facts, stands_in, Lent, begun, running, drain, refusals, perform, effect, refused, carried_out, valid_step, Outcome, fresh_ledger, entered}
use Rattle.model.specs.declared.call.Call.{Call}
use Rattle.model.specs.declared.call.Call.TheVariants.{CreTsk, DelTsk, StaTsk, ExtTsk, TerTsk, ChgPri, CreMtx, DelMtx, LocMtx, UnlMtx, CreMbf, DelMbf, SndMbf, RcvMbf, CreMpf, DelMpf, GetMpf, RelMpf, Tick}
use Rattle.model.specs.declared.call.Answer.TheVariants.{Code}
use Rattle.model.specs.Refusal.{compute_refusal}
use Rattle.model.proofs.ByCase.{step-valid}
use Rattle.model.proofs.RefusalLaws.{EachCode, of-first}
use Rattle.valid.specs.Agree.{valid-agrees}
use Rattle.invariant.specs.Invariant.{Steady}
use Rattle.preservation.proofs.Validity.{valid-steady}
use Rattle.preservation.proofs.Theorems.{keeps}
use Rattle.ledger.specs.Abstraction.{table, widths, lines_of, ledger_of}
use Rattle.ledger.specs.Statements.{ended_codes, FreshLedgerIs, LedgerKnows, CallsAreEntered}
use Rattle.ledger.proofs.Bridge.{known}
use Rattle.ledger.proofs.Acts.{drain-follows}
use Rattle.ledger.proofs.Enters.{Enters}
use Rattle.ledger.proofs.Tasks.{creates-task, deletes-task, starts-task, exits-task, terminates-task, changes-priority}
use Rattle.ledger.proofs.Mutexes.{creates-mutex, deletes-mutex, locks-mutex, unlocks-mutex}
use Rattle.ledger.proofs.Buffers.{creates-buffer, deletes-buffer, sends-message, receives-message}
use Rattle.ledger.proofs.Pools.{creates-pool, deletes-pool, gets-block, returns-block}
use Rattle.ledger.proofs.Time.{ticks}

pub fresh-ledger-is : FreshLedgerIs
unfolding ledger_of lines_of table widths fresh_ledger fresh facts stands_in
fresh-ledger-is = refl

pub ledger-knows : LedgerKnows
ledger-knows x v = known (valid-steady x v)

-- nothing is entered with any code of the table
abbrev Passed : Lent → Call → List ℕ → Type 0
Passed x c bytes = EachCode (λ e. entered (ledger_of x.kernel) c (Code e) [] ≡ ledger_of x.kernel) (refusals x.kernel c bytes)

each-call : {x : Lent} → Steady 0 (begun x) → (c : Call) (bytes : List ℕ) → Enters x c × Passed x c bytes
unfolding entered compute_refusal
each-call s (CreTsk priority) bytes = (creates-task s priority, search)
each-call s (DelTsk task) bytes = (deletes-task s task, search)
each-call s (StaTsk task) bytes = (starts-task s task, search)
each-call s ExtTsk bytes = (exits-task s, search)
each-call s (TerTsk task) bytes = (terminates-task s task, search)
each-call s (ChgPri task priority) bytes = (changes-priority s task priority, search)
each-call s (CreMtx attribute ceiling) bytes = (creates-mutex s attribute ceiling, search)
each-call s (DelMtx mutex) bytes = (deletes-mutex s mutex, search)
each-call s (LocMtx mutex timeout) bytes = (locks-mutex s mutex timeout, search)
each-call s (UnlMtx mutex) bytes = (unlocks-mutex s mutex, search)
each-call s (CreMbf attribute bufsz maxmsz) bytes = (creates-buffer s attribute bufsz maxmsz, search)
each-call s (DelMbf buffer) bytes = (deletes-buffer s buffer, search)
each-call s (SndMbf buffer msgsz timeout) bytes = (sends-message s buffer msgsz timeout, search)
each-call s (RcvMbf buffer timeout) bytes = (receives-message s buffer timeout, search)
each-call s (CreMpf attribute count size) bytes = (creates-pool s attribute count size, search)
each-call s (DelMpf pool) bytes = (deletes-pool s pool, search)
each-call s (GetMpf pool timeout) bytes = (gets-block s pool timeout, search)
each-call s (RelMpf pool block) bytes = (returns-block s pool block, search)
each-call s Tick bytes = (ticks s, search)

pub calls-are-entered : CallsAreEntered
unfolding valid_step carried_out refused effect
calls-are-entered x c bytes fit v =
    let s = valid-steady x v in
    let call = each-call s c bytes in
    rw (step-valid x c bytes ((valid-agrees x).1 v))
    (of-first
    (λ o.
    let r : Outcome = elim o [ none ↦ carried_out (effect (begun x) c bytes) | some e ↦ refused x e (running x.kernel) ] in
    entered (ledger_of x.kernel) c r.answer (ended_codes r.ended) ≡ ledger_of r.lent.kernel)
    (refusals x.kernel c bytes) call.1
    (λ q.
    let begins = call.0 bytes q in
    let w = (perform (begun x) c bytes).world in
    begins.adds (ended_codes (drain w).ended) ∙ drain-follows begins.ledger (keeps s c bytes fit q) begins.follows))
