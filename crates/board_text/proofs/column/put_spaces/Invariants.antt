-- `put_spaces` meets its contract. The invariant: what is left is the spaces from i on. Assumes nothing.
use Prim.Native.Nat.{◌-◌}
use mathlib.Core.Path.{◌≡◌}
use lib.ListN.{length}
use Rattle.text.proofs.Loops.{Left}
use Rattle.board_text.specs.Column.{spaces}
use Rattle.board_text.proofs.column.put_spaces.Given as goal

abbrev pub invariant-loop : goal.invariant-loop
invariant-loop l = Left l.initial.text l.at (spaces l.n) l.text l.next (spaces (l.n - l.counter)) × (length l.text ≡ length l.initial.text)

abbrev pub decreases-loop : goal.decreases-loop
decreases-loop l = l.n - l.counter
