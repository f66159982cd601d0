-- `put` meets its contract: the test picks the case. Assumes nothing.
use borrow.Author.Tests.{lt-ltb, le-ltb}
use Rattle.state.proofs.layout.put.Goals as goal

pub returns-then-i-slots : goal.returns-then-i-slots
returns-then-i-slots c = rw (lt-ltb _ _ c.if-i-slots.true)

pub returns-else-i-slots : goal.returns-else-i-slots
returns-else-i-slots c = rw (le-ltb _ _ c.if-i-slots.false)
