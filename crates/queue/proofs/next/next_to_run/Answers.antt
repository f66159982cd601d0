-- `next_to_run` meets its contract. The loops' invariants: what is left of the search decides what it finds. Assumes nothing.
use native.Mathlib.Omega.{arith}
use mathlib.Core.Path.{◌∙◌, refl, sym}
use lib.Count.{trailing_le}
use Rattle.queue.proofs.NextLaws.{search-start, search-done, look-start, look-more, look-done, look_hit}
use Rattle.state.proofs.WordLaws.{long}
use Rattle.queue.proofs.next.next_to_run.Goals as goal

pub overflow_add-first : goal.overflow_add-first
overflow_add-first c = omega (arith, trailing_le 32 c.bits.result)

pub search-init : goal.search-init
search-init c = (refl, search-start _ (long _ c.told-state) c.requires _ c.bits.ensures)

pub loop-i-init : goal.loop-i-init
loop-i-init c = (c.search.invariant.0, look-start _ _ c.search-test.true c.search.invariant.1)

pub loop-i-smaller : goal.loop-i-smaller
loop-i-smaller c = omega arith

pub loop-i-preserved : goal.loop-i-preserved
loop-i-preserved c =
    let l = c.loop-i.invariant in
    (l.0, look-more _ _ _ l.1 c.loop-i-test.true _ c.task-u.ensures (sym c.ready_at.ensures ∙ c.if-ready_at.false))

pub search-smaller : goal.search-smaller
search-smaller c = let h = c.loop-i.invariant.1.inside in omega arith

pub search-preserved : goal.search-preserved
search-preserved c = let l = c.loop-i.invariant in (l.0, look-done _ _ _ l.1 c.loop-i-test.false)

pub returns-after-search : goal.returns-after-search
returns-after-search c = let s = c.search.invariant in s.0 ∙ search-done _ _ c.search-test.false s.1

pub returns-then-ready_at : goal.returns-then-ready_at
returns-then-ready_at c =
    let l = c.loop-i.invariant in
    c.from_word-found.ensures ∙ look_hit _ _ _ l.1 c.loop-i-test.true _ c.task-u.ensures (sym c.ready_at.ensures ∙ c.if-ready_at.true)
