-- `free_count` meets its contract. The loop's invariant: those counted, and those of the blocks still to be seen, are all. Assumes nothing.
use Rattle.status.proofs.Blocks.{see-free, see-taken, seen_all}
use Rattle.status.proofs.pool.free_count.Goals.{then-flag-eq0, else-flag-eq0}
use Rattle.status.proofs.pool.free_count.Goals as goal

pub loop-i-preserved : goal.loop-i-preserved
loop-i-preserved c =
    let seen = c.loop-i.invariant in
    let h = c.loop-i-test.true in
    let e = c.taken-flag.ensures in
    elim c.if-flag-eq0.branch [
      | then-flag-eq0 w ↦ rw w.free-is (see-free seen h _ e w.if-flag-eq0.true)
      | else-flag-eq0 w ↦ rw w.free-is (see-taken seen h _ e w.if-flag-eq0.false)
    ]

pub returns : goal.returns
returns c = seen_all c.loop-i.invariant c.loop-i-test.false
