-- What is asked of each number.
use Rattle.model.specs.Words.{kernel}
use Rattle.valid.specs.Parts.{same_current}
use Rattle.valid.proofs.current.same_currents.Given as goal

abbrev pub ghost-every : goal.ghost-every
ghost-every a = same_current (kernel a.test.0.now) (kernel a.test.1.now)
