-- `copy_in` meets its contract. The loop's invariant says what is left to store; it ends at the end of the message or of the slice. Assumes nothing.
use Prim.Native.Nat.{◌≤◌}
use lib.ListN.{take}
use Rattle.message.proofs.Stores.{LeftToStore}
use Rattle.message.proofs.copy.copy_in.Given as goal

abbrev pub invariant-loop-i : goal.invariant-loop-i
invariant-loop-i l = (l.i ≤ l.count) × LeftToStore (take l.n l.m) l.at l.initial.r l.r l.i
