-- `not_valid` meets its contract: the answer, and that no task runs. Assumes nothing.
use mathlib.Core.Path.{refl}
use Rattle.script.proofs.Appending.{wrote, wrote-more}
use Rattle.call.proofs.not_valid.Goals as goal

pub returns : goal.returns
returns c =
    record {
      answer = refl;
      bytes = wrote-more (wrote c.log_answer-at.ensures) (wrote
          c.log_runs.ensures);
    }
