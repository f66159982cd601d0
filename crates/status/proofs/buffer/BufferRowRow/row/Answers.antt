-- `row` meets its contract: the fields are those of the buffer. Assumes nothing.
use mir.Syntax.{w32}
use mir.Facts.{to_z-of_z}
use Rattle.status.specs.Rows.{buffer_row}
use Rattle.status.proofs.Sound.{asked-sound, asked-valid}
use Rattle.status.proofs.Messages.{next-shown, used-inside, room-shown}
use Rattle.status.proofs.buffer.BufferRowRow.row.Goals as goal

pub overflow_sub-result : goal.overflow_sub-result
overflow_sub-result c = rw (c.bufsz-bufsz.ensures, c.used-used.ensures) (used-inside _ _ c.requires.1 c.requires.2 (asked-valid _ _ _ c.requires.0))

pub returns : goal.returns
unfolding buffer_row
returns c =
    rw (
      to_z-of_z {w = w32} {z = c.room.result} (record { sfits = c.room.type_inv }),
      c.room.ensures,
      c.maxmsz.ensures,
      c.bufsz-bufsz.ensures,
      c.used-used.ensures,
      c.next_length.ensures,
      c.first_of.ensures,
      c.word.ensures,
      c.first_of-2.ensures,
      c.word-2.ensures,
      room-shown _ _ c.requires.1 c.requires.2 (asked-valid _ _ _ c.requires.0),
      next-shown _ _ c.requires.1 c.requires.2 (asked-sound _ _ _ c.requires.0) c.requires.3,
    )
