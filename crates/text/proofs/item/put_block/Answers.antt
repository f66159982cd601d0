-- `put_block` meets its contract. Assumes nothing.
use Rattle.text.proofs.Texts.{number-of-item, block-put}
use Rattle.text.proofs.item.put_block.Goals as goal

pub returns : goal.returns
returns c =
    let item = c.args.item.now in
    block-put item c.put_task-next.ensures c.put-next.ensures
    (number-of-item item 2 c.part.ensures c.field.ensures c.field.type_inv c.put_signed.ensures)
