-- `put_place_line` meets its contract, by the length of the script. Assumes nothing.
use Rattle.text.proofs.Here.{too_long, not-too-long}
use Rattle.text.proofs.place.put_place_line.Goals as goal

pub returns-then-script-gt-SCRIPT_BYTES : goal.returns-then-script-gt-SCRIPT_BYTES
returns-then-script-gt-SCRIPT_BYTES c = too_long _ _ c.if-script-gt-SCRIPT_BYTES.true c.put_too_long.ensures

pub returns : goal.returns
returns c = not-too-long _ _ c.if-script-gt-SCRIPT_BYTES.false c.put_number-next.ensures c.put-next.ensures c.put_here-next.ensures c.put.ensures
