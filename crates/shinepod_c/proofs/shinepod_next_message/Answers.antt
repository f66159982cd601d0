-- `shinepod_next_message` meets its contract. Assumes nothing.
use mir.Facts.{to_z-of_z}
use Rattle.shinepod_c.proofs.Telling.{tells-shown}
use Rattle.shinepod_c.proofs.shinepod_next_message.Goals as goal

pub returns : goal.returns
returns c =
    tells-shown _ _ _ _
    (rw (to_z-of_z c.ranges.buffer) at c.location-l.ensures)
    c.area_of.ensures c.start_of.ensures
    c.message_at-m.ensures
