-- `block_flag` meets its contract: the fields read are the model's. Assumes nothing.
use Rattle.model.specs.Valid.{block_flag}
use Rattle.valid.proofs.pool.block_flag.Goals as goal

pub returns : goal.returns
unfolding block_flag
returns c = rw (c.within.ensures, c.count-count.ensures, c.taken-flag.ensures)
