-- `ready_task` meets its contract: none's number is not ready, and a task's place decides. Assumes nothing.
use mathlib.Core.Path.{◌∙◌, sym}
use Rattle.model.proofs.NumberLaws.{task-there, task-none}
use Rattle.ready.proofs.ReadyLaws.{none_found, elsewhere-found, ready-found}
use Rattle.state.proofs.WordLaws.{long}
use Rattle.ready.proofs.ready_task.Goals as goal

pub returns-in_default : goal.returns-in_default
returns-in_default c = none_found c.args.state.now _ (long _ c.told-state) (task-none _ (sym c.from_word-found.ensures ∙ c.in_default.is))

pub returns-then-place-eq-READY : goal.returns-then-place-eq-READY
returns-then-place-eq-READY c =
    let made = c.from_word-found.ensures in
    sym c.in-Some.is ∙ made ∙ ready-found _ _ (task-there _ _ (sym made ∙ c.in-Some.is)) c.place.ensures c.if-place-eq-READY.true

pub returns-else-place-eq-READY : goal.returns-else-place-eq-READY
returns-else-place-eq-READY c = elsewhere-found _ _ (task-there _ _ (sym c.from_word-found.ensures ∙ c.in-Some.is)) c.place.ensures c.if-place-eq-READY.false
