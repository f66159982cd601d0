-- `assemble` meets its contract, line by line. Assumes nothing.
use Rattle.std.proofs.Common.{length}
use Rattle.assemble.proofs.Texts.{Going}
use Rattle.assemble.proofs.assembler.assemble.Given as goal

abbrev pub invariant-loop-i : goal.invariant-loop-i
invariant-loop-i l = Going l.text l.script l.end (length l.yielded)
