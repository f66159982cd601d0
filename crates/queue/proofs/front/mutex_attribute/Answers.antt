-- `mutex_attribute` meets its contract: a word that names nothing reads as 0. Assumes nothing.
use Rattle.model.proofs.NumberLaws.{mutex_kind}
use Rattle.state.proofs.WordLaws.{long, mutexes-long}
use Rattle.queue.proofs.Standing.{entry-there, entry-none}
use Rattle.queue.proofs.front.mutex_attribute.Goals as goal

pub returns-in_default : goal.returns-in_default
returns-in_default c = search (long, entry-none mutex_kind, mutexes-long)

pub returns : goal.returns
returns c = search (entry-there mutex_kind)
