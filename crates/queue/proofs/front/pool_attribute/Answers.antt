-- `pool_attribute` meets its contract: a word that names nothing reads as 0. Assumes nothing.
use Rattle.model.proofs.NumberLaws.{pool_kind}
use Rattle.state.proofs.WordLaws.{long, pools-long}
use Rattle.queue.proofs.Standing.{entry-there, entry-none}
use Rattle.queue.proofs.front.pool_attribute.Goals as goal

pub returns-in_default : goal.returns-in_default
returns-in_default c = search (long, entry-none pool_kind, pools-long)

pub returns : goal.returns
returns c = search (entry-there pool_kind)
