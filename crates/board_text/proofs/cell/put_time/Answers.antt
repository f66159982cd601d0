-- `put_time` meets its contract, by the sign. Assumes nothing.
use mathlib.Core.Path.{◌∙◌, sym, ap}
use mir.Syntax.{w32}
use mir.Val.{to_z, of_z}
use mir.Facts.{to_z-of_z}
use Rattle.board_text.proofs.Cells.{without_end, no-time, some-time}
use Rattle.board_text.proofs.cell.put_time.Goals as goal

pub returns-then-left-lt0 : goal.returns-then-left-lt0
returns-then-left-lt0 c = without_end _ (to_z-of_z c.ranges.left) c.if-left-lt0.true c.put.ensures

pub returns-then-left-eq0 : goal.returns-then-left-eq0
returns-then-left-eq0 c = no-time _ (sym (to_z-of_z c.ranges.left) ∙ ap (to_z w32) c.if-left-eq0.true) c.put-then-left-eq0.ensures

pub returns : goal.returns
returns c =
    some-time _ (to_z-of_z c.ranges.left) c.if-left-lt0.false (λ e. c.if-left-eq0.false (ap (of_z w32) e)) c.put_signed-next.ensures
    c.put-2.ensures
