-- `next_message` meets its contract: what lies at the location is shown. Assumes nothing.
use mir.Facts.{to_z-of_z}
use Rattle.valid.proofs.Shown.{shown-there}
use Rattle.valid.proofs.next.next_message.Goals as goal

pub returns : goal.returns
returns c = search (shown-there, to_z-of_z)
