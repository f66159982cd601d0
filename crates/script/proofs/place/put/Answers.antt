-- `put` meets its contract. The invariant: the first i bytes stand in the area, whose other bytes are as they were. Assumes nothing.
use Prim.Native.Nat.{ℕ, ◌+◌, ◌≤◌}
use native.Mathlib.Omega.{arith}
use mathlib.Core.Path.{◌≡◌, ◌∙◌, refl, sym, ap}
use mathlib.Core.List.{List}
use lib.ListN.{length, get_or, set}
use lib.Seq.{paste, paste-zero, paste-suc, length-paste}
use native.Mathlib.Numerals.{add-one}
use borrow.Author.Rules.{rules}
use borrow.Author.Tests.{leb-true, leb-false, not-true, not-false}
use Rattle.script.proofs.Appending.{over-paste, appended, left_out}
use mathlib.Core.Bool.{not}
use Rattle.script.proofs.place.put.Goals as goal

-- the area in a turn, and after the loop
length-inv : (area area₀ bytes : List ℕ) (at i : ℕ) → area ≡ paste area₀ at bytes i → i ≤ length bytes → at + length bytes ≤ length area₀
    → length area ≡ length area₀
length-inv area area₀ bytes at i e h k = ap length e ∙ length-paste area₀ at bytes i (omega arith) h

pub returns-then-not-room : goal.returns-then-not-room
returns-then-not-room c = left_out _ _ _ (leb-false _ _ (sym c.room.ensures ∙ not-true _ (ap not c.if-not-room.true)))

pub loop-i-init : goal.loop-i-init
loop-i-init c =
    let a = c.args in
    let fits = leb-true _ _ (sym c.room.ensures ∙ not-false _ (ap not c.if-not-room.false)) in
    (paste-zero a.area.now a.at a.bytes.now, search rules, fits)

pub overflow_add-area : goal.overflow_add-area
overflow_add-area c = omega (arith, c.well_formed)

pub bounds-area-at : goal.bounds-area-at
bounds-area-at c = let v = c.loop-i.invariant in omega (arith, length-inv _ _ _ _ _ v.0 v.1 v.2)

pub loop-i-preserved : goal.loop-i-preserved
loop-i-preserved c =
    let a = c.args in
    let l = c.loop-i in (
      ap (λ (x : List ℕ). set x (a.at + l.i) (get_or a.bytes.now l.i 0)) l.invariant.0
          ∙ paste-suc a.area.now a.at a.bytes.now l.i 0 (omega arith) (omega arith)
          ∙ ap (paste a.area.now a.at a.bytes.now) (sym (add-one l.i)),
      omega arith,
      l.invariant.2,
    )

pub returns : goal.returns
returns c =
    let a = c.args in
    let l = c.loop-i in
    let e : l.i ≡ length a.bytes.now = omega arith in
    let whole = rw e at l.invariant.0 ∙ over-paste a.area.now a.at a.bytes.now in
    appended a.area.now a.at a.bytes.now _ _ l.invariant.2 whole refl
