-- What is shown of each call that nothing refuses, a file for each kind of object: the ledger that its answer begins is, after the waits that it ends before the
-- drain, the kernel's.
use Rattle.model.proofs.Terms.{ℕ, ◌≤◌, ◌<◌, arith, ◌≡◌, ◌≢◌, refl, none, some, List, foldl, ℤ, pos, ◌!◌, Queue, ready, Lent, World, Delivery, begun, with_outbox, running, wait, first_refusal, refusals, Done, answered, waits, perform, Ledger, answered_with, waits_in, waiting, ends_wait, entered}
use Rattle.model.specs.declared.call.Call.{Call}
use Rattle.queue.proofs.Members.{running-stood}
use Rattle.invariant.specs.Rows.{open_world}
use Rattle.invariant.specs.Invariant.{Steady}
use Rattle.ledger.specs.Abstraction.{widths, ledger_of}
use Rattle.ledger.proofs.Bridge.{known}
use Rattle.ledger.proofs.Acts.{Follows, waits-entered}

-- of what a call comes to: the ledger that its answer begins, to which the ended waits are added
pub record Begins (x : Lent) (c : Call) (d : Done) : Type 0 where
  pub ledger : Ledger
  pub adds : (ended : List (ℕ × ℤ)) → entered (ledger_of x.kernel) c d.answer ended ≡ foldl ends_wait ledger ended
  pub follows : Follows ledger d.world

abbrev pub Enters : Lent → Call → Type 0
Enters x c = (bytes : List ℕ) → first_refusal (refusals x.kernel c bytes) ≡ none → Begins x c (perform (begun x) c bytes)

-- a call that is answered with a code
pub answers : {x : Lent} {c : Call} (n : ℕ) (d : Delivery) (w : World) → Follows (answered_with (ledger_of x.kernel) c n) w → Begins x c (answered (pos n) d w)
unfolding entered
answers {x} {c} n d w f = record { ledger = answered_with (ledger_of x.kernel) c n; adds = λ ended. refl; follows = f }

-- one whose caller waits, with these bytes in the outbox
pub caller-waits : {x : Lent} → Steady 0 (begun x) → running x.kernel ≢ 0 → (c : Call) (q : Queue) (argument : ℕ) (timeout : ℤ) (outbox : List ℕ)
    → waits_in c ≡ some q → ready ≤ q.place → q.object < widths ! q.place
    → Begins x c (waits (wait (with_outbox (begun x) outbox) (running x.kernel) q argument timeout))
unfolding entered waiting wait open_world
caller-waits {x} s runs c q argument timeout outbox e place object =
    let f = running-stood x.kernel runs in
    record {
      ledger = waiting (ledger_of x.kernel) c;
      adds = λ ended. refl;
      follows = rw (e, waiting, (known s).runs) (waits-entered s (running x.kernel) f.low f.high q argument timeout outbox (omega (arith, f.place)) place object);
    }
