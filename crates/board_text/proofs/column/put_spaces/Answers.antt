-- `put_spaces` meets its contract. The invariant: what is left is the spaces from i on. Assumes nothing.
use borrow.Author.Rules.{rules}
use mathlib.Core.Path.{refl}
use Rattle.board_text.proofs.Cells.{no-space-yet, more-spaces, all-spaces}
use Rattle.board_text.proofs.column.put_spaces.Goals as goal

pub loop-init : goal.loop-init
loop-init c = (no-space-yet _ _ c.args.n, refl)

pub loop-preserved : goal.loop-preserved
loop-preserved c =
    let l = c.loop in
    (more-spaces c.args.n l.counter l.invariant.0 c.loop-test.true c.put-next.ensures, search rules)

pub returns : goal.returns
returns c = let l = c.loop in all-spaces c.args.n l.counter l.invariant.0 c.loop-test.false
