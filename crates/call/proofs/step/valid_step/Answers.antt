-- `valid_step` meets its contract: the call is carried out, or its refusal is the answer. Assumes nothing.
use mathlib.Core.Option.{some}
use mathlib.Core.Path.{ap, ◌∙◌, sym}
use mir.Facts.{to_z-of_z}
use mir.Syntax.{w32}
use borrow.Author.Rules.{rules}
use Rattle.call.proofs.Stepping.{step-refuses}
use Rattle.reply.proofs.Refusing.{was-allowed, was-refused}
use Rattle.call.proofs.step.valid_step.Goals as goal

pub carried-requires : goal.carried-requires
carried-requires c = record { ready = c.requires; message_value = was-allowed c.refuse-found.ensures c.in_default.is }

pub returns-in_default : goal.returns-in_default
returns-in_default c = c.carried.ensures

pub returns : goal.returns
returns c =
    step-refuses _ _ _ c.requires
    (was-refused c.refuse-found.ensures c.in-Err.is ∙ ap some (sym c.code.ensures ∙ sym (to_z-of_z {w = w32} (search rules))))
    c.log_answer-at.ensures c.log_runs.ensures
