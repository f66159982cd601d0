-- `filled` meets its contract: the message is placed on zeros. Assumes nothing.
use mathlib.Core.Path.{◌∙◌, ap}
use Rattle.model.specs.Sizes.{message_bytes}
use Rattle.model.specs.Lists.{zeros}
use Rattle.script.specs.Place.{placed}
use Rattle.script.proofs.Padding.{padded-placed}
use Rattle.script.proofs.log.filled.Goals as goal

pub returns : goal.returns
returns c =
    let m = c.args.message.now in
    c.put.ensures.area ∙ ap (placed (zeros message_bytes) 0) c.part.ensures ∙ padded-placed message_bytes m
