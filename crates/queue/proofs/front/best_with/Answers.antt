-- `best_with` meets its contract: the test picks the case. Assumes nothing.
use mathlib.Core.Path.{◌∙◌, sym}
use Rattle.queue.proofs.front.best_with.Goals as goal

pub returns-then-stands_in : goal.returns-then-stands_in
returns-then-stands_in c = rw (sym c.stands_in.ensures ∙ c.if-stands_in.true) c.better_of.ensures

pub returns-else-stands_in : goal.returns-else-stands_in
returns-else-stands_in c = rw (sym c.stands_in.ensures ∙ c.if-stands_in.false)
