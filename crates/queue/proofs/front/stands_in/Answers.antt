-- `stands_in` meets its contract: the tests pick the case. Assumes nothing.
use mathlib.Core.Path.{◌∙◌, sym}
use Rattle.model.proofs.NumberLaws.{task-there, task-none}
use Rattle.queue.proofs.Standing.{stands-nowhere, stands-elsewhere, stands-there}
use Rattle.queue.proofs.front.stands_in.Goals as goal

pub returns-in_default : goal.returns-in_default
returns-in_default c = stands-nowhere _ _ _ _ (task-none _ (sym c.from_word-found.ensures ∙ c.in_default.is))

pub returns-then-place : goal.returns-then-place
returns-then-place c = stands-elsewhere _ _ _ _ _ (task-there _ _ (sym c.from_word-found.ensures ∙ c.in-Some.is)) _ c.place.ensures c.if-place.true

pub returns : goal.returns
returns c = stands-there _ _ _ _ _ (task-there _ _ (sym c.from_word-found.ensures ∙ c.in-Some.is)) _ _ c.place.ensures c.if-place.false c.object.ensures
