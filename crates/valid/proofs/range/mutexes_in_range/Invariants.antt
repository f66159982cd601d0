-- What is asked of each number.
use Rattle.model.specs.Valid.{mutex_range}
use Rattle.model.specs.Words.{kernel}
use Rattle.valid.proofs.range.mutexes_in_range.Given as goal

abbrev pub ghost-every : goal.ghost-every
ghost-every a = mutex_range (kernel a.test.0.now)
