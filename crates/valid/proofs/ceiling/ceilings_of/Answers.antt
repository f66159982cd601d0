-- `ceilings_of` meets its contract: above none is not above any. Assumes nothing.
use Rattle.valid.proofs.Objects.{above-none}
use Rattle.valid.proofs.ceiling.ceilings_of.Goals as goal

pub returns : goal.returns
returns c = search above-none
