-- `code` meets its contract: a number of the lower half is read as itself. Assumes nothing.
use mir.Syntax.{w32}
use mir.Facts.{to_z_pos}
use Rattle.reply.proofs.field.code.Goals as goal

pub returns : goal.returns
returns c = to_z_pos w32 c.requires
