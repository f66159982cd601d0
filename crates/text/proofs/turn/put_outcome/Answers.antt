-- `put_outcome` meets its contract, by how the script goes on. Assumes nothing.
use mathlib.Core.Path.{refl}
use Rattle.text.proofs.Logs.{shows_nothing}
use Rattle.text.proofs.turn.put_outcome.Goals as goal

pub returns-in-Over : goal.returns-in-Over
returns-in-Over c = shows_nothing c.args.log.now _ c.in-Over.is refl

pub returns-in-NoArea : goal.returns-in-NoArea
returns-in-NoArea c = shows_nothing c.args.log.now _ c.in-NoArea.is refl
