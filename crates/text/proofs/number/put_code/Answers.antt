-- `put_code` meets its contract, by the sign. Assumes nothing.
use mir.Facts.{to_z-of_z}
use Rattle.text.proofs.Signs.{code_below, code-from-zero}
use Rattle.text.proofs.number.put_code.Goals as goal

pub returns-then-code-lt0 : goal.returns-then-code-lt0
returns-then-code-lt0 c =
    code_below _ (to_z-of_z c.ranges.code) c.if-code-lt0.true c.unsigned_abs.ensures.value c.put_signed-next.ensures
    c.put_error.ensures

pub returns-else-code-lt0 : goal.returns-else-code-lt0
returns-else-code-lt0 c = code-from-zero _ (to_z-of_z c.ranges.code) c.if-code-lt0.false c.put_signed-next.ensures
