-- `give_back` meets its contract: nobody waits, or the first waiter gets the block. Assumes nothing.
use Rattle.pool.proofs.Returning.{gives-free, gives-next}
use Rattle.pool.proofs.release.give_back.Goals as goal

pub returns-in_default : goal.returns-in_default
returns-in_default c =
    gives-free _ c.word.ensures
    c.front-first.ensures c.in_default.is
    c.set_taken.ensures

pub returns : goal.returns
returns c =
    gives-next _ c.word.ensures c.front-first.ensures c.in-Some.is
    c.end_wait_block.ensures
