-- `ready_at` meets its contract: the first test decides whether the second is asked. Assumes nothing.
use Prim.Native.Nat.{ℕ}
use mathlib.Core.Path.{◌∙◌, sym, ap}
use lib.Dec.{eqb}
use Rattle.queue.proofs.next.ready_at.Goals as goal

pub returns-then-stands_in : goal.returns-then-stands_in
returns-then-stands_in c = rw (sym c.stands_in.ensures ∙ c.if-stands_in.true) (ap (λ (n : ℕ). eqb n c.args.p) c.current.ensures)

pub returns-else-stands_in : goal.returns-else-stands_in
returns-else-stands_in c = rw (sym c.stands_in.ensures ∙ c.if-stands_in.false)
