-- `flags` meets its contract: pool 0 has no blocks, so its flags are 0. Assumes nothing.
use Rattle.valid.proofs.Check.{flag-tests}
use Rattle.valid.proofs.pool.flags.Goals as goal

pub returns : goal.returns
returns c = search flag-tests
