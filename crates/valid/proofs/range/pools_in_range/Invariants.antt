-- What is asked of each number.
use Rattle.model.specs.Valid.{pool_range}
use Rattle.model.specs.Words.{kernel}
use Rattle.valid.proofs.range.pools_in_range.Given as goal

abbrev pub ghost-every : goal.ghost-every
ghost-every a = pool_range (kernel a.test.0.now)
