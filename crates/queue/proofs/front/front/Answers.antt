-- `front` meets its contract: the test picks the search, whose number is the front's. Assumes nothing.
use mathlib.Core.Path.{◌∙◌, sym}
use Rattle.queue.proofs.Fronts.{front-urgent, front-oldest, front-found}
use Rattle.queue.proofs.front.front.Goals as goal

pub returns-then-by_priority : goal.returns-then-by_priority
returns-then-by_priority c = c.from_word.ensures ∙ front-found _ _ _ (c.most_urgent.ensures ∙ front-urgent _ _ (sym c.by_priority.ensures ∙ c.if-by_priority.true))

pub returns-else-by_priority : goal.returns-else-by_priority
returns-else-by_priority c = c.from_word-else-by_priority.ensures ∙ front-found _ _ _ (c.oldest.ensures ∙ front-oldest _ _ (sym c.by_priority.ensures ∙ c.if-by_priority.false))
