-- `put_two` meets its contract: with room for both, two appends in a row are one. Assumes nothing.
use Prim.Native.Nat.{◌+◌, ◌≤◌}
use native.Mathlib.Omega.{arith}
use mathlib.Core.Path.{◌∙◌, sym}
use lib.ListN.{length, length-append}
use borrow.Author.Tests.{leb-true, leb-false, not-true, not-false}
use Rattle.script.proofs.Appending.{left_out, two}
use mathlib.Core.Bool.{not}
use mathlib.Core.Path.{ap}
use Rattle.script.proofs.place.put_two.Goals as goal

pub returns-then-not-room : goal.returns-then-not-room
returns-then-not-room c =
    let a = c.args in
    left_out a.area.now a.at _
    (simp length-append (leb-false _ _ (sym c.room.ensures ∙ not-true _ (ap not c.if-not-room.true))))

pub returns : goal.returns
returns c =
    let a = c.args in
    let h : a.at + (length a.first.now + length a.second.now) ≤ length a.area.now =
    leb-true _ _ (sym c.room.ensures ∙ not-false _ (ap not c.if-not-room.false))
    in
    two a.area.now a.at a.first.now a.second.now (omega arith) _ _ _ _ c.put-next.ensures c.put.ensures
