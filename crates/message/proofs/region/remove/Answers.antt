-- `remove` meets its contract: the rest moved to the front, and zeros stored behind it. Assumes nothing.
use mathlib.Core.Path.{◌∙◌}
use Rattle.message.proofs.Packing.{removed-sets}
use Rattle.message.proofs.region.remove.Goals as goal

pub returns : goal.returns
returns c = (cc) ∙ removed-sets c.args.r.now
