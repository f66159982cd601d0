-- `del_mpf` meets its contract: the field names a pool, whose waits end in the order that was put down. Assumes nothing.
use mir.Facts.{to_z-of_z}
use Rattle.model.proofs.Terms.{getting, del_mpf}
use Rattle.model.proofs.NumberLaws.{pool_kind}
use Rattle.reply.proofs.Deletions.{delete-named, put-down-tasks, deletes}
use Rattle.pool.specs.Rows.{struck_out}
use Rattle.state.proofs.WordLaws.{long}
use Rattle.pool.proofs.delete.del_mpf.Goals as goal

pub returns-in_default : goal.returns-in_default
returns-in_default c =
    absurd (delete-named pool_kind _ _ (to_z-of_z c.ranges.pool) c.from_field-found.ensures
    c.requires c.in_default.is)

pub end_waits-next-requires : goal.end_waits-next-requires
end_waits-next-requires c = (put-down-tasks _ _ c.queue_order-start.ensures c.queue_order-start.auto.order)

pub returns : goal.returns
unfolding del_mpf
returns c =
    deletes pool_kind getting struck_out _ (to_z-of_z c.ranges.pool) c.from_field-found.ensures c.in-Some.is _
    (long _ c.told-state) c.word.ensures c.queue_order-start.ensures c.queue_order-start.auto.order c.log_answer-waits.ensures
    c.strike_out.ensures c.end_waits-next.ensures
