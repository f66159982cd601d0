-- `task_state` meets its contract: of the tasks that are ready one runs. Assumes nothing.
use mathlib.Core.Path.{◌∙◌, sym}
use borrow.Author.Tests.{eq-eqb, ne_eqb}
use Rattle.status.specs.Rows.{task_state}
use Rattle.status.proofs.Numbers.{word_made}
use Rattle.status.proofs.task.task_state.Goals as goal

pub returns-then-task_word-word : goal.returns-then-task_word-word
unfolding task_state
returns-then-task_word-word c =
    let runs = word_made c.next_to_run.ensures c.task_word.ensures in
    rw (← c.place-place.ensures, c.if-place-ne-READY.false, eq-eqb _ _ (sym runs ∙ c.if-task_word-word.true ∙ c.word.ensures))

pub returns-else-task_word-word : goal.returns-else-task_word-word
unfolding task_state
returns-else-task_word-word c =
    let runs = word_made c.next_to_run.ensures c.task_word.ensures in
    rw (← c.place-place.ensures, c.if-place-ne-READY.false, ne_eqb _ _ (λ e. c.if-task_word-word.false (runs ∙ e ∙ sym c.word.ensures)))
