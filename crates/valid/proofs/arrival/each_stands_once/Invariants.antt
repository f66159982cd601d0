-- What is asked of each number.
use Rattle.model.specs.Words.{kernel}
use Rattle.valid.specs.Parts.{stands_once}
use Rattle.valid.proofs.arrival.each_stands_once.Given as goal

abbrev pub ghost-every : goal.ghost-every
ghost-every a = stands_once (kernel a.test.0.now)
