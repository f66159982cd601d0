-- `put_signed` meets its contract, by the sign. Assumes nothing.
use mir.Facts.{to_z-of_z}
use Rattle.text.proofs.Signs.{signed_below, signed-from-zero}
use Rattle.text.proofs.number.put_signed.Goals as goal

pub returns-then-z-lt0 : goal.returns-then-z-lt0
returns-then-z-lt0 c =
    signed_below _ (to_z-of_z c.ranges.z) c.if-z-lt0.true c.unsigned_abs-n.ensures.value c.put-next.ensures
    c.put_number.ensures

pub returns-else-z-lt0 : goal.returns-else-z-lt0
returns-else-z-lt0 c = signed-from-zero _ (to_z-of_z c.ranges.z) c.if-z-lt0.false c.unsigned_abs-n.ensures.value c.put_number-else-z-lt0.ensures
