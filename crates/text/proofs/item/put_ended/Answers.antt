-- `put_ended` meets its contract. Assumes nothing.
use Rattle.text.proofs.Texts.{code-of-item, ended-put}
use Rattle.text.proofs.item.put_ended.Goals as goal

pub returns : goal.returns
returns c =
    let item = c.args.item.now in
    ended-put item c.put_task-next.ensures c.put-next.ensures
    (code-of-item item 2 c.part.ensures c.field.ensures c.field.type_inv c.put_code.ensures)
