-- `by_priority` meets its contract: the tests pick the kind of queue. Assumes nothing.
use Rattle.model.specs.Kernel.{facts}
use Rattle.queue.proofs.Standing.{by-ready, by-locking, by-sending, by-getting, by-arrival}
use Rattle.queue.proofs.front.by_priority.Goals as goal

pub returns-then-place-eq-READY : goal.returns-then-place-eq-READY
returns-then-place-eq-READY c = by-ready _ _ _ c.if-place-eq-READY.true

pub returns-then-place-eq-LOCKING : goal.returns-then-place-eq-LOCKING
unfolding facts
returns-then-place-eq-LOCKING c = by-locking _ _ _ c.if-place-eq-READY.false _ c.if-place-eq-LOCKING.true c.mutex_attribute.ensures

pub returns-then-place-eq-SENDING : goal.returns-then-place-eq-SENDING
unfolding facts
returns-then-place-eq-SENDING c = by-sending _ _ _ c.if-place-eq-READY.false c.if-place-eq-LOCKING.false _ c.if-place-eq-SENDING.true c.buffer_attribute.ensures

pub returns-then-place-eq-GETTING : goal.returns-then-place-eq-GETTING
unfolding facts
returns-then-place-eq-GETTING c = by-getting _ _ _ c.if-place-eq-READY.false c.if-place-eq-LOCKING.false c.if-place-eq-SENDING.false _ c.if-place-eq-GETTING.true c.pool_attribute.ensures

pub returns : goal.returns
returns c = by-arrival _ _ _ c.if-place-eq-READY.false c.if-place-eq-LOCKING.false c.if-place-eq-SENDING.false c.if-place-eq-GETTING.false
