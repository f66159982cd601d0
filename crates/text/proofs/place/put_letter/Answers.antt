-- `put_letter` meets its contract. Assumes nothing.
use Rattle.text.proofs.Texts.{letter-space, letter-other}
use Rattle.text.proofs.place.put_letter.Goals as goal

pub returns-then-c-eq32 : goal.returns-then-c-eq32
returns-then-c-eq32 c = letter-space _ _ _ c.if-c-eq32.true c.put_value-next.ensures c.put.ensures

pub returns-else-c-eq32 : goal.returns-else-c-eq32
returns-else-c-eq32 c = letter-other _ _ _ c.if-c-eq32.false c.put-else-c-eq32.ensures
