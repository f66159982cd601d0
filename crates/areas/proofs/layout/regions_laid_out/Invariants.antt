-- What is asked of each number.
use Rattle.model.specs.Valid.{region_layout}
use Rattle.model.specs.Words.{kernel}
use Rattle.areas.proofs.layout.regions_laid_out.Given as goal

abbrev pub ghost-every : goal.ghost-every
ghost-every a = region_layout (kernel a.test.0.now) a.test.1.now
