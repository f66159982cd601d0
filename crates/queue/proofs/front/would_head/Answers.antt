-- `would_head` meets its contract: nobody stands there, the task itself is first, or the order of the queue decides. Assumes nothing.
use Rattle.queue.proofs.Fronts.{head-nobody, head-itself, head-urgent, head-arrived}
use Rattle.queue.proofs.front.would_head.Goals as goal

pub returns-in_default : goal.returns-in_default
returns-in_default c = search head-nobody

pub returns-then-word : goal.returns-then-word
returns-then-word c = search head-itself

pub returns-then-by_priority : goal.returns-then-by_priority
returns-then-by_priority c = search head-urgent

pub returns : goal.returns
returns c = search head-arrived
