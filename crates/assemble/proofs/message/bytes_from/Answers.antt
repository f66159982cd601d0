-- `bytes_from` meets its contract, piece by piece. Assumes nothing.
use Rattle.std.proofs.Common.{arith}
use Rattle.std.proofs.lemmas.List.{set-get_or}
use Rattle.std.proofs.lemmas.Grind.{common_steps}
use Rattle.assemble.proofs.Pieces.{byte-goes, end-stops, wrong-stops}
use Rattle.assemble.proofs.message.bytes_from.Goals as goal

pub returns-in_err-value : goal.returns-in_err-value
returns-in_err-value c = rw (set-get_or c.loop-byte.message c.loop-byte.byte-index 0) (grind (arith, wrong-stops))

pub returns-in-End : goal.returns-in-End
returns-in-End c = rw (set-get_or c.loop-byte.message c.loop-byte.byte-index 0) (grind (arith, end-stops))

pub loop-byte-preserved : goal.loop-byte-preserved
loop-byte-preserved c = grind (arith, common_steps, byte-goes)
