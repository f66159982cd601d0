-- `region_laid_out` meets its contract: the region and the two numbers are the definition's. Assumes nothing.
use Rattle.areas.proofs.Messages.{region-tests}
use Rattle.areas.proofs.layout.region_laid_out.Goals as goal

pub returns : goal.returns
returns c = search region-tests
