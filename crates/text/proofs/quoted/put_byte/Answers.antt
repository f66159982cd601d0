-- `put_byte` meets its contract. Assumes nothing.
use Rattle.text.proofs.Texts.{byte-plain, byte-hex}
use Rattle.text.proofs.quoted.put_byte.Goals as goal

pub returns-then-stands_for_itself : goal.returns-then-stands_for_itself
returns-then-stands_for_itself c = byte-plain _ c.stands_for_itself.ensures c.if-stands_for_itself.true c.put.ensures

pub returns : goal.returns
returns c = byte-hex _ c.stands_for_itself.ensures c.if-stands_for_itself.false c.put-next.ensures c.put_hex.ensures
