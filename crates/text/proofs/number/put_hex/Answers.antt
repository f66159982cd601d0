-- `put_hex` meets its contract. Assumes nothing.
use mathlib.Core.Path.{sym}
use Rattle.text.specs.Numbers.{hex_byte}
use Rattle.text.proofs.number.put_hex.Goals as goal

pub returns : goal.returns
unfolding hex_byte
returns c = rw (sym c.hex_digit.ensures, sym c.hex_digit-2.ensures) c.put.ensures
