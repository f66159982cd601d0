-- `first_fitting` meets its contract: nobody sends there, or the first sender's message lacks room, or it fits. Assumes nothing.
use mir.Syntax.{w32}
use mir.Facts.{to_z-of_z}
use borrow.Author.Rules.{sfits_of}
use Rattle.search.proofs.Senders.{finds-nobody, finds-none, finds-first}
use Rattle.search.proofs.sender.first_fitting.Goals as goal

pub returns-in_default : goal.returns-in_default
returns-in_default c = search finds-nobody

pub returns-then-room-lt0 : goal.returns-then-room-lt0
returns-then-room-lt0 c =
    finds-none _ _ c.word.ensures c.front-found.ensures c.in-Some.is c.used-used.ensures
    c.bufsz-bufsz.ensures c.argument-length.ensures c.room.ensures (to_z-of_z {w = w32} (sfits_of c.room.type_inv)) c.if-room-lt0.true

pub returns : goal.returns
returns c = search (finds-first, to_z-of_z, sfits_of)
