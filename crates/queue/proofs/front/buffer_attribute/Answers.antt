-- `buffer_attribute` meets its contract: a word that names nothing reads as 0. Assumes nothing.
use Rattle.model.proofs.NumberLaws.{buffer_kind}
use Rattle.state.proofs.WordLaws.{long, buffers-long}
use Rattle.queue.proofs.Standing.{entry-there, entry-none}
use Rattle.queue.proofs.front.buffer_attribute.Goals as goal

pub returns-in_default : goal.returns-in_default
returns-in_default c = search (long, entry-none buffer_kind, buffers-long)

pub returns : goal.returns
returns c = search (entry-there buffer_kind)
