-- `refuse_chg_pri` meets its contract: each test is a condition of the table, in its order. Assumes nothing.
use mir.Facts.{to_z-of_z}
use Rattle.task.proofs.Changing.{change-outside, change-numberless, change-never, change-missing, change-above, change-allowed}
use Rattle.task.proofs.change.refuse_chg_pri.Goals as goal

pub returns-then-outside : goal.returns-then-outside
returns-then-outside c = search (change-outside, to_z-of_z)

pub returns-then-outside-2 : goal.returns-then-outside-2
returns-then-outside-2 c = search (change-numberless, to_z-of_z)

pub returns-in_default : goal.returns-in_default
returns-in_default c = search (change-never, to_z-of_z)

pub returns-then-place-eq-ABSENT : goal.returns-then-place-eq-ABSENT
returns-then-place-eq-ABSENT c = search (change-missing, to_z-of_z)

pub returns-then-above_any_ceiling : goal.returns-then-above_any_ceiling
returns-then-above_any_ceiling c =
    change-above _ _ _ (to_z-of_z c.ranges.priority) c.outside.ensures c.if-outside.false (to_z-of_z c.ranges.task)
    c.outside-2.ensures c.if-outside-2.false c.chosen_task-found.ensures c.in-Some.is c.place.ensures c.if-place-eq-ABSENT.false
    c.chosen_base.ensures c.above_any_ceiling.ensures c.if-above_any_ceiling.true

pub returns : goal.returns
returns c =
    change-allowed _ _ _ (to_z-of_z c.ranges.priority) c.outside.ensures c.if-outside.false (to_z-of_z c.ranges.task)
    c.outside-2.ensures c.if-outside-2.false c.chosen_task-found.ensures c.in-Some.is c.place.ensures c.if-place-eq-ABSENT.false
    c.chosen_base.ensures c.above_any_ceiling.ensures c.if-above_any_ceiling.false
