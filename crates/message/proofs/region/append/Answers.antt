-- `append` meets its contract: a message packed into the part behind the bytes used is one appended. Assumes nothing.
use mathlib.Core.Path.{◌∙◌, sym}
use lib.ListN.{take}
use Rattle.model.specs.Message.{packed}
use Rattle.message.proofs.Stores.{sets-out, sets-lent}
use Rattle.message.proofs.Packing.{appended-sets}
use Rattle.message.proofs.region.append.Goals as goal

pub returns-then-used-r : goal.returns-then-used-r
returns-then-used-r c =
    let a = c.args in
    let m = take a.n a.m.now in
    rw c.pack.ensures (sets-lent (packed m) a.r.now a.used ∙ sym (appended-sets a.r.now a.used m))

pub returns-else-used-r : goal.returns-else-used-r
returns-else-used-r c =
    let a = c.args in
    let m = take a.n a.m.now in
    sym (appended-sets a.r.now a.used m ∙ sets-out (packed m) a.r.now a.used c.if-used-r.false)
