-- `put_longer` meets its contract, text by text. Assumes nothing.
use Rattle.script.proofs.Appending.{wrote, wrote-more}
use Rattle.assemble.specs.Reasons.{longer_than}
use Rattle.assemble.proofs.reason.put_longer.Goals as goal

pub returns : goal.returns
unfolding longer_than
returns c =
    wrote-more (wrote-more (wrote-more (wrote c.put-next.ensures) (wrote c.put-next-2.ensures)) (wrote c.put_number-next.ensures))
    (wrote c.put.ensures)
