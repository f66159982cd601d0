-- `awaited` meets its contract: the number that is given is that of the one queue of a mutex that the task stands in. Assumes nothing.
use native.Mathlib.Omega.{arith}
use mathlib.Core.Path.{◌∙◌, sym}
use borrow.Author.Tests.{ne_eqb}
use Rattle.model.proofs.NumberLaws.{task-there, task-none}
use Rattle.queue.proofs.Standing.{stands-nowhere, stands-elsewhere, stands-there}
use Rattle.search.proofs.ceiling.awaited.Goals as goal

pub returns-in_default : goal.returns-in_default
returns-in_default c m h =
    ne_eqb 0 m (λ e. omega (arith, e, h)) ∙ stands-nowhere _ _ _ _ (task-none _ (sym (rw c.word.ensures at c.from_word.ensures) ∙ c.in_default.is))

pub returns-then-place-ne-LOCKING : goal.returns-then-place-ne-LOCKING
returns-then-place-ne-LOCKING c m h =
    ne_eqb 0 m (λ e. omega (arith, e, h))
    ∙ stands-elsewhere _ _ _ _ _ (task-there _ _ (sym (rw c.word.ensures at c.from_word.ensures) ∙ c.in-Some.is)) _ c.place.ensures c.if-place-ne-LOCKING.true

pub returns : goal.returns
returns c m h =
    stands-there _ _ _ _ _ (task-there _ _ (sym (rw c.word.ensures at c.from_word.ensures) ∙ c.in-Some.is)) _ _ c.place.ensures c.if-place-ne-LOCKING.false c.object.ensures
