-- `row` meets its contract: the fields are those of the task. Assumes nothing.
use mir.Syntax.{w32}
use mir.Facts.{to_z-of_z}
use Rattle.status.specs.Rows.{task_row}
use Rattle.status.proofs.Sound.{asked-valid}
use Rattle.status.proofs.Waits.{object-shown, time-shown, time-fits}
use Rattle.status.proofs.task.TaskRowRow.row.Goals as goal

pub task_state-requires : goal.task_state-requires
task_state-requires c = (asked-valid _ _ _ c.requires.0).is_bitmap

pub shown_time-requires : goal.shown_time-requires
shown_time-requires c = rw c.left.ensures (time-fits _ (asked-valid _ _ _ c.requires.0) _ c.requires.1 c.requires.2)

pub returns : goal.returns
unfolding task_row
returns c =
    let v = asked-valid _ _ _ c.requires.0 in
    rw (
      to_z-of_z {w = w32} {z = c.shown_time.result} (record { sfits = c.shown_time.type_inv }),
      c.task_state.ensures,
      c.base.ensures,
      c.current.ensures,
      c.awaited_kind.ensures,
      c.object.ensures,
      c.shown_time.ensures,
      c.left.ensures,
      object-shown _ v _ c.requires.1 c.requires.2,
      time-shown _ v _ c.requires.1 c.requires.2,
    )
