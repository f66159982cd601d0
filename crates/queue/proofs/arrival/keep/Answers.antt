-- `keep` meets its contract: the tests pick the case. Assumes nothing.
use mathlib.Core.Path.{◌∙◌, sym}
use Rattle.queue.proofs.ArrivingLaws.{kept-none, kept-itself, kept-other}
use Rattle.state.proofs.WordLaws.{long}
use Rattle.queue.proofs.arrival.keep.Goals as goal

pub returns-then-u-eq0 : goal.returns-then-u-eq0
returns-then-u-eq0 c = kept-none _ _ _ _ (long _ c.told-state) _ c.task-u.ensures c.if-u-eq0.true

pub returns-then-u-word : goal.returns-then-u-word
returns-then-u-word c =
    kept-itself _ _ _ _ (long _ c.told-state) _ c.task-u.ensures
    (c.if-u-word.true ∙ c.word.ensures)

pub returns : goal.returns
returns c =
    kept-other _ _ _ _ (long _ c.told-state) _ _ c.task-u.ensures c.if-u-eq0.false
    (λ q. c.if-u-word.false (q ∙ sym c.word.ensures)) c.set_task.ensures
