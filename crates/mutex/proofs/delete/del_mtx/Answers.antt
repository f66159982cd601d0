-- `del_mtx` meets its contract: the field names a mutex, whose waits end in the order that was put down. Assumes nothing.
use mir.Facts.{to_z-of_z}
use Rattle.model.proofs.Terms.{locking, with_kernel, settled, del_mtx}
use Rattle.model.proofs.NumberLaws.{mutex_kind}
use Rattle.reply.proofs.Deletions.{delete-named, put-down-tasks, deletes}
use Rattle.mutex.specs.Struck.{struck_out}
use Rattle.state.proofs.WordLaws.{long}
use Rattle.mutex.proofs.delete.del_mtx.Goals as goal

pub returns-in_default : goal.returns-in_default
returns-in_default c =
    absurd (delete-named mutex_kind _ _ (to_z-of_z c.ranges.mutex) c.from_field-found.ensures
    c.requires c.in_default.is)

pub end_waits-next-requires : goal.end_waits-next-requires
end_waits-next-requires c = (put-down-tasks _ _ c.queue_order-start.ensures c.queue_order-start.auto.order)

pub returns : goal.returns
unfolding del_mtx settled with_kernel
returns c =
    deletes mutex_kind locking struck_out _ (to_z-of_z c.ranges.mutex) c.from_field-found.ensures c.in-Some.is _
    (long _ c.told-state) c.word.ensures c.queue_order-start.ensures c.queue_order-start.auto.order c.log_answer-waits.ensures
    c.strike_out.ensures c.end_waits-next.ensures
