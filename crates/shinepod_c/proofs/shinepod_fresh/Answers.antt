-- `shinepod_fresh` meets its contract: other lengths leave all alone. Assumes nothing.
use borrow.Author.Tests.{not-true, not-false}
use Rattle.shinepod_c.proofs.Telling.{leaves-alone, makes-fresh}
use mathlib.Core.Bool.{not}
use mathlib.Core.Path.{ap}
use Rattle.shinepod_c.proofs.shinepod_fresh.Goals as goal

pub returns-then-not-right_lengths : goal.returns-then-not-right_lengths
returns-then-not-right_lengths c = leaves-alone _ _ _ c.right_lengths.ensures (not-true _ (ap not c.if-not-right_lengths.true))

pub returns : goal.returns
returns c =
    makes-fresh _ _ _ c.right_lengths.ensures (not-false _ (ap not c.if-not-right_lengths.false)) c.fresh.ensures
    c.clear.ensures c.clear-2.ensures
