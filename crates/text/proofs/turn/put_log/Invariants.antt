-- `put_log` meets its contract. The invariant: what is left is the rest of the log. Assumes nothing.
use mathlib.Core.Path.{◌≡◌}
use lib.ListN.{length}
use Rattle.text.specs.Turn.{log_text}
use Rattle.text.proofs.Loops.{Left}
use Rattle.text.proofs.turn.put_log.Given as goal

abbrev pub invariant-loop-rest : goal.invariant-loop-rest
invariant-loop-rest l = Left l.initial.text l.at (log_text l.log) l.text l.next (log_text l.rest) × (length l.text ≡ length l.initial.text)

abbrev pub decreases-loop-rest : goal.decreases-loop-rest
decreases-loop-rest l = length l.rest
