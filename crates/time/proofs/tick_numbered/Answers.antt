-- `tick_numbered` meets its contract: each number names a task. Assumes nothing.
use Rattle.model.proofs.NumberLaws.{task_kind, never-unnamed}
use Rattle.time.proofs.Ticking.{ticks-numbered}
use Rattle.time.proofs.tick_numbered.Goals as goal

pub returns-in_default : goal.returns-in_default
returns-in_default c =
    absurd (never-unnamed task_kind c.from_word-found.ensures c.requires.0
    c.requires.1 c.in_default.is)

pub returns : goal.returns
returns c =
    ticks-numbered _ c.from_word-found.ensures
    c.in-Some.is
    c.tick_task.ensures
