-- What is asked of each number.
use Rattle.model.specs.Valid.{outbox_part}
use Rattle.model.specs.Words.{kernel}
use Rattle.areas.proofs.outbox.outbox_laid_out.Given as goal

abbrev pub ghost-every : goal.ghost-every
ghost-every a = outbox_part (kernel a.test.0.now) a.test.1.now
