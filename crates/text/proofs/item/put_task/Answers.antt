-- `put_task` meets its contract. Assumes nothing.
use Rattle.text.proofs.Texts.{task-put}
use Rattle.text.proofs.item.put_task.Goals as goal

pub returns : goal.returns
returns c = task-put _ c.put-next.ensures c.byte.ensures c.put_number.ensures
