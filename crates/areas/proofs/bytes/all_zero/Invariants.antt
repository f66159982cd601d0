-- `all_zero` meets its contract. The loop's invariant: the bytes looked at and those that are left decide. Assumes nothing.
use Rattle.areas.proofs.ByteLaws.{ZeroSoFar}
use Rattle.areas.proofs.bytes.all_zero.Given as goal

abbrev pub invariant-loop-byte : goal.invariant-loop-byte
invariant-loop-byte l = ZeroSoFar l.bytes l.zero l.byte-index
