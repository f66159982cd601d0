-- `word_number` meets its contract: the test for the last number picks the case. Assumes nothing.
use borrow.Author.Tests.{lt-ltb, le-ltb}
use Rattle.model.specs.Number.{word_number}
use Rattle.model.proofs.number.word_number.Goals as goal

pub returns-then-last-n : goal.returns-then-last-n
unfolding word_number
returns-then-last-n c = rw (lt-ltb _ _ c.if-last-n.true, word_number)

pub returns-else-last-n : goal.returns-else-last-n
unfolding word_number
returns-else-last-n c = rw (le-ltb _ _ c.if-last-n.false, word_number)
