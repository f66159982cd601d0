-- What is asked of each number.
use Rattle.model.specs.Words.{kernel}
use Rattle.valid.specs.Parts.{no_sender}
use Rattle.valid.proofs.waiter.no_senders.Given as goal

abbrev pub ghost-every : goal.ghost-every
ghost-every a = no_sender (kernel a.test.0.now) a.test.1
