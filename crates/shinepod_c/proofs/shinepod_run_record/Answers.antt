-- `shinepod_run_record` meets its contract: what the record promises is told. Assumes nothing.
use mathlib.Core.Path.{◌∙◌}
use mir.Syntax.{w32}
use mir.Facts.{to_z-of_z}
use borrow.Author.Rules.{rules}
use Rattle.shinepod_c.proofs.Telling.{tells-record}
use Rattle.shinepod_c.proofs.shinepod_run_record.Goals as goal

pub returns : goal.returns
returns c =
    tells-record _ _ _ c.run_record-ran.ensures
    c.progress_outcome.ensures (to_z-of_z {w = w32} (search rules) ∙ c.progress_code.ensures) c.progress_next.ensures
