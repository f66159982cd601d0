-- The loop of `fill_board`: after i turns the table is `written` of i objects. Assumes nothing.
use Prim.Native.Nat.{◌≤◌}
use mathlib.Core.Path.{◌≡◌}
use Rattle.board.specs.Table.{written}
use Rattle.board.proofs.fill.fill_board.Given as goal

abbrev pub invariant-loop-i : goal.invariant-loop-i
invariant-loop-i g l = record {
  rows : l.rows ≡ written (g.R.Row.exists l.state) (g.R.Row.row_of l.state l.store l.outbox) 1 l.i l.fn.rows;
  inside : l.i ≤ g.R.Of.Object.LAST;
}
