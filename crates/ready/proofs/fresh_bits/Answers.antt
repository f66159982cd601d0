-- `fresh_bits` meets its contract. The loop's invariant: the tasks from n on have still to add their bits. Assumes nothing.
use Rattle.ready.proofs.ReadyLaws.{adding-start, adding-more, adding-done}
use Rattle.ready.proofs.fresh_bits.Goals as goal

pub loop-n-init : goal.loop-n-init
loop-n-init c = adding-start _

pub loop-n-preserved : goal.loop-n-preserved
loop-n-preserved c = adding-more _ _ _ c.loop-n.invariant c.loop-n-test.true c.with_task-word.ensures

pub returns : goal.returns
returns c = adding-done _ _ _ c.loop-n.invariant c.loop-n-test.false
