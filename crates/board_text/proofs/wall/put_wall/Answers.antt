-- `put_wall` meets its contract: all of it fits. Assumes nothing.
use mathlib.Core.Path.{◌∙◌}
use Rattle.board_text.proofs.Fitting.{wall-is}
use Rattle.board_text.proofs.wall.put_wall.Goals as goal

pub returns : goal.returns
returns c =
    let rows = c.well_formed.1.1.1 in
    wall-is _ _ _ _ _ _ rows.0.1.0.1 rows.1.0.1.0.1 rows.1.1.0.1.0.1 rows.1.1.1.0.1.0.1 (c.turn_text-next.auto.text ∙ c.requires)
    c.turn_text-next.ensures c.put-next.ensures c.put_tables.ensures
