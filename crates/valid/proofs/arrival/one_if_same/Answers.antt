-- `one_if_same` meets its contract: the test picks the case. Assumes nothing.
use borrow.Author.Tests.{eq-eqb, ne_eqb}
use Rattle.valid.proofs.arrival.one_if_same.Goals as goal

pub returns-then-u-v : goal.returns-then-u-v
returns-then-u-v c = rw (eq-eqb c.args.u c.args.v c.if-u-v.true)

pub returns-else-u-v : goal.returns-else-u-v
returns-else-u-v c = rw (ne_eqb c.args.u c.args.v c.if-u-v.false)
