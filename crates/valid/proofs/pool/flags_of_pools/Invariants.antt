-- What is asked of each number.
use Rattle.model.specs.Sizes.{blocks}
use Rattle.std.specs.Prelude.{suc}
use Rattle.model.specs.Lists.{all, count_from}
use Rattle.model.specs.Valid.{block_flag}
use Rattle.model.specs.Words.{kernel}
use Rattle.valid.proofs.pool.flags_of_pools.Given as goal

abbrev pub ghost-every : goal.ghost-every
ghost-every a = λ p. all (block_flag (kernel a.test.0.now) p) (count_from 0 (suc blocks))
