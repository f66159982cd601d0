-- `bad_timeout` meets its contract. Assumes nothing.
use mir.Facts.{to_z-of_z}
use borrow.Author.Rules.{rules}
use Rattle.model.specs.Refusal.{bad_timeout}
use Rattle.reply.proofs.field.bad_timeout.Goals as goal

pub returns : goal.returns
unfolding bad_timeout
returns c = search (rules, to_z-of_z)
