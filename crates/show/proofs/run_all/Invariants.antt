-- `run_all` meets its contract: after each turn, what more turns leave is what they leave from there on. Assumes nothing.
use Prim.Native.Nat.{suc, ◌-◌}
use mathlib.Core.Path.{◌≡◌}
use lib.ListN.{length}
use Rattle.model.specs.Sizes.{script_bytes}
use Rattle.act.specs.Held.{areas}
use Rattle.run.proofs.Turning.{Left}
use Rattle.show.proofs.run_all.Given as goal

abbrev pub invariant-loop : goal.invariant-loop
invariant-loop l = ((length l.state ≡ length l.initial.state) × ((length l.store ≡ length l.initial.store) × ((length l.outbox ≡ length l.initial.outbox) × ((length l.log ≡ length l.initial.log) × (length l.text ≡ length l.initial.text)))))
    × Left (areas l.initial.state l.initial.store l.initial.outbox l.initial.log) l.script (areas l.state l.store l.outbox l.log) l.at.at l.counter

abbrev pub decreases-loop : goal.decreases-loop
decreases-loop l = suc script_bytes - l.counter
