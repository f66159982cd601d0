-- `first_of` meets its contract: the number that the front is made from. Assumes nothing.
use Rattle.status.proofs.Numbers.{word_made}
use Rattle.status.proofs.waiter.first_of.Goals as goal

pub returns : goal.returns
returns c = search word_made
