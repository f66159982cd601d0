-- `used` meets its contract: a word that names nothing reads as 0. Assumes nothing.
use Rattle.model.proofs.NumberLaws.{buffer_kind}
use Rattle.valid.proofs.Objects.{entry-there, entry-none}
use Rattle.valid.proofs.entry.used.Goals as goal

pub returns-in_default : goal.returns-in_default
returns-in_default c = search (entry-none buffer_kind)

pub returns : goal.returns
returns c = search (entry-there buffer_kind)
