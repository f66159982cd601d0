-- `storable` meets its contract. Assumes nothing.
use mir.Facts.{to_z-of_z}
use mir.Syntax.{w32}
use borrow.Author.Rules.{sfits_of}
use Rattle.buffer.proofs.Sending.{storable-behind, storable-first}
use mathlib.Core.Bool.{not}
use mathlib.Core.Path.{ap}
use Rattle.buffer.proofs.send.storable.Goals as goal

pub returns-then-not-would_head : goal.returns-then-not-would_head
returns-then-not-would_head c = storable-behind _ _ _ c.requires c.word.ensures c.would_head.ensures (ap not c.if-not-would_head.true)

pub returns : goal.returns
returns c =
    storable-first _ _ _ c.requires c.word.ensures c.would_head.ensures (ap not c.if-not-would_head.false) c.used-used.ensures
    c.bufsz-bufsz.ensures c.room.ensures (to_z-of_z {w = w32} (sfits_of c.room.type_inv))
