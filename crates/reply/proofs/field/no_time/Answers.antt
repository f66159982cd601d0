-- `no_time` meets its contract. Assumes nothing.
use mir.Facts.{to_z-of_z}
use borrow.Author.Rules.{rules}
use Rattle.model.specs.Refusal.{no_time}
use Rattle.reply.proofs.field.no_time.Goals as goal

pub returns : goal.returns
unfolding no_time
returns c = search (rules, to_z-of_z)
