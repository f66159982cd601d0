-- `any_ready_from` meets its contract: one who is ready at the priority is enough. Assumes nothing.
use mathlib.Core.Path.{◌∙◌, sym}
use Rattle.state.proofs.WordLaws.{long, places-long}
use Rattle.ready.proofs.ReadyLaws.{one-ready}
use Rattle.ready.proofs.any_ready_from.Goals as goal

pub returns-then-task_ready_at : goal.returns-then-task_ready_at
returns-then-task_ready_at c = sym (one-ready _ _ _ (places-long _ (long _ c.told-state)) (sym c.task_ready_at.ensures ∙ c.if-task_ready_at.true))
