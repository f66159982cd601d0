-- `current` meets its contract: a word that names nothing reads as 0. Assumes nothing.
use Rattle.model.proofs.NumberLaws.{task_kind}
use Rattle.state.proofs.WordLaws.{long, currents-long}
use Rattle.queue.proofs.Standing.{entry-there, entry-none}
use Rattle.queue.proofs.front.current.Goals as goal

pub returns-in_default : goal.returns-in_default
returns-in_default c = search (long, entry-none task_kind, currents-long)

pub returns : goal.returns
returns c = search (entry-there task_kind)
