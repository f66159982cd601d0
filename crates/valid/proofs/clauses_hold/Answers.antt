-- `clauses_hold` meets its contract: each test answers its own clause. Assumes nothing.
use Rattle.valid.proofs.Check.{clause-tests}
use Rattle.valid.proofs.clauses_hold.Goals as goal

pub returns : goal.returns
returns c = search clause-tests
