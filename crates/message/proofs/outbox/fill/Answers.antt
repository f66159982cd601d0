-- `fill` meets its contract: the message, and zeros stored behind it. Assumes nothing.
use mathlib.Core.Path.{◌∙◌}
use Rattle.message.proofs.Packing.{padded-sets}
use Rattle.message.proofs.outbox.fill.Goals as goal

pub returns : goal.returns
returns c =
    let a = c.args in
    (cc) ∙ padded-sets a.p.now a.m.now a.n
