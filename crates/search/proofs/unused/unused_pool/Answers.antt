-- `unused_pool` meets its contract: the first number whose entry is 0. Assumes nothing.
use Rattle.model.specs.Act.{unused}
use Rattle.search.proofs.unused.unused_pool.Goals as goal

pub returns : goal.returns
unfolding unused
returns c = c.first.ensures
