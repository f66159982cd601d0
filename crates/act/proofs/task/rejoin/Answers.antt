-- `rejoin` meets its contract: the queue goes by priority and current and base priority are equal, or nothing changes. Assumes nothing.
use Rattle.act.proofs.Tasks.{rejoins, rejoins-not}
use Rattle.state.proofs.WordLaws.{long}
use Rattle.act.proofs.task.rejoin.Goals as goal

pub returns-then-by_priority-current : goal.returns-then-by_priority-current
returns-then-by_priority-current c = search rejoins

pub returns-else-by_priority-current : goal.returns-else-by_priority-current
returns-else-by_priority-current c =
    rejoins-not _ _ c.place-place.ensures
    c.object-object.ensures c.current-current.ensures
    c.base-base.ensures c.by_priority.ensures
    (long _ c.told-state) c.if-by_priority-current.false
