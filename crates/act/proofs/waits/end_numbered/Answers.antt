-- `end_numbered` meets its contract: each number names a task. Assumes nothing.
use mir.Facts.{to_z-of_z}
use Rattle.model.proofs.NumberLaws.{task_kind, never-unnamed}
use Rattle.act.proofs.EndingAll.{ends-numbered}
use Rattle.act.proofs.waits.end_numbered.Goals as goal

pub returns-in_default : goal.returns-in_default
returns-in_default c =
    absurd (never-unnamed task_kind c.from_word-found.ensures c.requires.0
    c.requires.1 c.in_default.is)

pub returns : goal.returns
returns c =
    ends-numbered _ _ c.from_word-found.ensures
    c.in-Some.is (to_z-of_z
    c.ranges.code)
    c.end_wait.ensures
