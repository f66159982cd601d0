-- `buffer_valid` meets its contract: each test answers its own clause. Assumes nothing.
use Rattle.valid.proofs.Check.{buffer-tests}
use Rattle.valid.proofs.object.buffer_valid.Goals as goal

pub returns : goal.returns
returns c = search buffer-tests
