-- What is asked of each number.
use Rattle.model.specs.Flags.{passes}
use Rattle.model.specs.Words.{kernel}
use Rattle.valid.specs.Check.{buffer_tests}
use Rattle.valid.proofs.object.buffers_valid.Given as goal

abbrev pub ghost-every : goal.ghost-every
ghost-every a = passes (buffer_tests (kernel a.test.0.now))
