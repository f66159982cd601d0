-- `put_answer` meets its contract. Assumes nothing.
use Rattle.script.proofs.Appending.{wrote, wrote-more}
use Rattle.text.proofs.Texts.{code-of-item}
use Rattle.text.specs.Item.{answer_text}
use Rattle.text.proofs.item.put_answer.Goals as goal

pub returns : goal.returns
unfolding answer_text
returns c =
    wrote-more (wrote c.put-next.ensures)
    (code-of-item c.args.item.now 1 c.part.ensures c.field.ensures c.field.type_inv
    c.put_code.ensures)
