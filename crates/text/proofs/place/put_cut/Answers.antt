-- `put_cut` meets its contract. Assumes nothing.
use Rattle.text.proofs.Texts.{cut-put}
use Rattle.text.proofs.place.put_cut.Goals as goal

pub returns : goal.returns
returns c =
    cut-put _ _ _ c.put-next.ensures c.put_name-next.ensures c.put-next-2.ensures c.put_number-next.ensures c.put-next-3.ensures
    c.put_number.ensures
