-- `put` meets its contract. The invariant: the first i bytes stand in the area, whose other bytes are as they were. Assumes nothing.
use Prim.Native.Nat.{◌+◌, ◌≤◌}
use mathlib.Core.Path.{◌≡◌}
use lib.ListN.{length}
use lib.Seq.{paste}
use Rattle.script.proofs.place.put.Given as goal

abbrev pub invariant-loop-i : goal.invariant-loop-i
invariant-loop-i l = (l.area ≡ paste l.initial.area l.at l.bytes l.i) × (l.i ≤ length l.bytes) × (l.at + length l.bytes ≤ length l.initial.area)
