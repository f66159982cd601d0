-- `put_value` meets its contract. Assumes nothing.
use Rattle.text.proofs.Texts.{no_value, value}
use Rattle.text.proofs.place.put_value.Goals as goal

pub returns-then-word-eq0 : goal.returns-then-word-eq0
returns-then-word-eq0 c = no_value _ c.if-word-eq0.true

pub returns : goal.returns
returns c = value _ _ c.if-word-eq0.false c.put-next.ensures c.field.ensures c.field.type_inv c.put_signed.ensures
