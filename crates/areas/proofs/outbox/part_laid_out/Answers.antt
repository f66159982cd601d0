-- `part_laid_out` meets its contract: a message of all bytes of a part is the part. Assumes nothing.
use Rattle.areas.proofs.ByteLaws.{part-tests}
use Rattle.areas.proofs.outbox.part_laid_out.Goals as goal

pub returns : goal.returns
returns c = search part-tests
