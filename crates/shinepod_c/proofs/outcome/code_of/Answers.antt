-- `code_of` meets its contract, case by case. Assumes nothing.
use mathlib.Core.Path.{◌∙◌, sym, ap}
use mir.Syntax.{w32}
use mir.Facts.{to_z-of_z}
use borrow.Author.Rules.{rules}
use Rattle.shinepod_c.specs.Outcome.{code_of}
use Rattle.shinepod_c.proofs.outcome.code_of.Goals as goal

pub returns-in-Code : goal.returns-in-Code
returns-in-Code c = to_z-of_z {w = w32} (search rules) ∙ ap code_of (sym c.in-Code.is)

pub returns-in-Waits : goal.returns-in-Waits
returns-in-Waits c = ap code_of (sym c.in-Waits.is)

pub returns-in-Exits : goal.returns-in-Exits
returns-in-Exits c = ap code_of (sym c.in-Exits.is)
