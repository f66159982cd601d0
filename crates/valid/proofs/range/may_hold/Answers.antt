-- `may_hold` meets its contract: the tests pick the case. Assumes nothing.
use Rattle.valid.proofs.Objects.{hold-none, hold-nobody, hold-task}
use Rattle.state.proofs.WordLaws.{long, places-long}
use Rattle.valid.proofs.range.may_hold.Goals as goal

pub returns-then-n-eq0 : goal.returns-then-n-eq0
returns-then-n-eq0 c = search hold-none

pub returns-in_default : goal.returns-in_default
returns-in_default c = search (long, hold-nobody, places-long)

pub returns : goal.returns
returns c = search hold-task
