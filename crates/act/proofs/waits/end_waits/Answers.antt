-- `end_waits` meets its contract: what is left is the order from the next place on. Assumes nothing.
use native.Mathlib.Omega.{arith}
use mathlib.Core.Path.{◌∙◌, refl, sym}
use lib.ListN.{drop_of_length-le}
use mir.Facts.{to_z-of_z}
use borrow.Author.Rules.{rules}
use Rattle.act.proofs.EndingAll.{ending}
use Rattle.act.proofs.Loop.{dropped, in-log-more, in-log-none}
use Rattle.state.proofs.WordLaws.{long}
use Rattle.act.proofs.waits.end_waits.Goals as goal

pub loop-n-init : goal.loop-n-init
loop-n-init c = ending _ _ (long _ c.told-state)

pub end_numbered-next-requires : goal.end_numbered-next-requires
end_numbered-next-requires c = c.requires.each c.loop-n.n-index c.loop-n-test.true

pub loop-n-preserved : goal.loop-n-preserved
loop-n-preserved c =
    let i = c.loop-n.invariant in
    let k = c.end_numbered-next.auto in
    in-log-more _ (dropped _ c.loop-n.n-index c.loop-n-test.true) i (long _ c.end_numbered-next.array_long ∙ sym i.words) k.outbox k.log c.end_numbered-next.ensures

pub returns : goal.returns
returns c =
    rw (to_z-of_z c.ranges.code) at (in-log-none _ (drop_of_length-le _ {i = c.loop-n.n-index}
    (search rules)) c.loop-n.invariant)
