-- `release_held` meets its contract: each number names a mutex, and its holder is the task or not. Assumes nothing.
use Rattle.model.proofs.NumberLaws.{mutex_kind, never-unnamed}
use Rattle.act.proofs.Releasing.{held-not, held-released}
use Rattle.act.proofs.mutex.release_held.Goals as goal

pub returns-in_default : goal.returns-in_default
returns-in_default c = search (never-unnamed mutex_kind)

pub returns-then-holder-word : goal.returns-then-holder-word
returns-then-holder-word c = search held-not

pub returns : goal.returns
returns c = search held-released
