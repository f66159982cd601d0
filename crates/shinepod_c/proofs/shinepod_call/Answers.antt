-- `shinepod_call` meets its contract: nothing is done where no call has the kind, else what the call promises is told. Assumes nothing.
use mathlib.Core.Path.{◌∙◌, sym, ap}
use mir.Syntax.{w32}
use mir.Facts.{to_z-of_z}
use borrow.Author.Rules.{rules}
use Rattle.model.specs.Record.{kinds}
use Rattle.script.specs.Body.{call_in}
use Rattle.script.proofs.Rows.{known-row, unknown-row}
use Rattle.script.proofs.Making.{same}
use Rattle.shinepod_c.proofs.Telling.{tells-unknown, tells-call}
use Rattle.shinepod_c.proofs.shinepod_call.Goals as goal

pub returns-in_default : goal.returns-in_default
returns-in_default c = tells-unknown _ _ _ _ (unknown-row _ (sym c.body_length.ensures ∙ c.in_default.is))

pub returns : goal.returns
returns c =
    tells-call _ c.args.kind _ _ (known-row _ _ (sym c.body_length.ensures ∙ c.in-Some.is))
    (c.call_of-call.ensures ∙ ap (call_in kinds c.args.kind) (same c.ranges.first c.ranges.second c.ranges.third))
    c.call-called.ensures c.outcome_of.ensures (to_z-of_z {w = w32} (search rules) ∙ c.code_of.ensures)
