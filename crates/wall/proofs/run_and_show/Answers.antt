-- `run_and_show` meets its contract: the place that is shown is the script's end. Assumes nothing.
use mathlib.Core.Path.{sym}
use Rattle.wall.proofs.run_and_show.Goals as goal

pub returns : goal.returns
returns c = record { areas = c.run_all-place.ensures.areas; front = rw (sym c.run_all-place.ensures.end) c.show_board.ensures }
