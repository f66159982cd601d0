-- `put_runs` meets its contract. Assumes nothing.
use Rattle.text.proofs.Texts.{runs_none, runs-task}
use Rattle.text.proofs.item.put_runs.Goals as goal

pub returns-then-byte-eq0 : goal.returns-then-byte-eq0
returns-then-byte-eq0 c = runs_none _ c.byte.ensures c.if-byte-eq0.true c.put.ensures

pub returns : goal.returns
returns c = runs-task _ c.byte.ensures c.if-byte-eq0.false c.put-next.ensures c.put_task.ensures
