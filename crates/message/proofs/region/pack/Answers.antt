-- `pack` meets its contract: length, bytes and padding are the packed message. Assumes nothing.
use mathlib.Core.Path.{◌∙◌}
use Rattle.message.proofs.Packing.{packed-sets}
use Rattle.message.proofs.region.pack.Goals as goal

pub returns : goal.returns
returns c =
    let a = c.args in
    (cc) ∙ packed-sets a.r.now a.m.now a.n
