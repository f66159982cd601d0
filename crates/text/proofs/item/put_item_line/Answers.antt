-- `put_item_line` meets its contract: one put behind the other. Assumes nothing.
use Rattle.script.proofs.Appending.{wrote, wrote-more}
use Rattle.text.specs.Item.{item_line}
use Rattle.text.proofs.item.put_item_line.Goals as goal

pub returns : goal.returns
unfolding item_line
returns c = wrote-more (wrote-more (wrote c.put-next.ensures) c.put_item-next.ensures) (wrote c.put.ensures)
