-- `delete` meets its contract: both orders are put down before the buffer is struck out. Assumes nothing.
use mathlib.Core.Path.{◌∙◌}
use Rattle.reply.proofs.Deletions.{put-down-tasks}
use Rattle.buffer.proofs.Deleting.{ends-all}
use Rattle.state.proofs.WordLaws.{long}
use Rattle.buffer.proofs.delete.delete.Goals as goal

pub end_both-requires : goal.end_both-requires
end_both-requires c = record { tasks = search put-down-tasks; tasks_2 = search put-down-tasks }

pub returns : goal.returns
returns c =
    ends-all _ c.word.ensures c.queue_order-r.ensures c.queue_order-r.auto.order c.word-2.ensures
    c.queue_order-s.ensures c.queue_order-s.auto.order c.strike_out.ensures c.end_both.ensures
