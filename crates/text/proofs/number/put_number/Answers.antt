-- `put_number` meets its contract: the digits that it puts are the decimal. Assumes nothing.
use mathlib.Core.Path.{◌∙◌, sym}
use Rattle.text.proofs.Digits.{is-decimal}
use Rattle.text.proofs.number.put_number.Goals as goal

pub returns : goal.returns
returns c =
    let d = c.decimal-k.ensures in
    rw (sym (d.digits ∙ is-decimal _ _ c.ranges.n.fits d.len)) c.put.ensures
