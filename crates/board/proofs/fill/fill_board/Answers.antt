-- `fill_board` meets its contract: the refusals leave the table; else each turn writes an object's row or leaves it. Assumes nothing.
use Prim.Native.Nat.{suc, ◌<◌}
use native.Mathlib.Omega.{arith}
use mathlib.Core.Path.{◌≡◌, refl}
use lib.ListN.{length}
use borrow.Author.Rules.{rules}
use borrow.Author.Tests.{lt-ltb, le-ltb}
use Rattle.model.specs.Words.{sizes}
use Rattle.model.proofs.NumberLaws.{number_kind, Names, named, never-unnamed}
use Rattle.status.proofs.Sound.{asked-words}
use Rattle.board.specs.Table.{board_of}
use Rattle.board.proofs.Rule.{turn-writes, turn-leaves}
use Rattle.board.proofs.fill.fill_board.Goals.{then-exists, else-exists}
use Rattle.board.proofs.fill.fill_board.Goals as goal

pub returns-then-not-is_valid : goal.returns-then-not-is_valid
unfolding board_of
returns-then-not-is_valid g c = rw (← c.is_valid.ensures, c.if-not-is_valid.true)

pub returns-in_default : goal.returns-in_default
unfolding sizes
returns-in_default g c = absurd (c.in_default.ensures.cases (asked-words _ c.args.store.now c.args.outbox.now (rw c.is_valid.ensures at c.if-not-is_valid.false)))

pub returns-then-rows-LAST : goal.returns-then-rows-LAST
unfolding board_of
returns-then-rows-LAST g c = rw (← c.is_valid.ensures, c.if-not-is_valid.false, lt-ltb (length c.args.rows.now) g.R.Of.Object.LAST (omega (arith, c.if-rows-LAST.true, c.LAST.ensures)))

pub loop-i-init : goal.loop-i-init
loop-i-init g c = record { rows = refl; inside = omega arith }

pub loop-i-preserved-in_default-from_word : goal.loop-i-preserved-in_default-from_word
loop-i-preserved-in_default-from_word g c =
    absurd (never-unnamed (number_kind _ g.R.Of.Object.LAST) c.from_word.ensures (omega arith) (omega (arith, c.loop-i-test.true, c.LAST-i-end.ensures)) c.in_default-from_word.is)

pub row-requires : goal.row-requires
row-requires g c =
    let number : Names g.R.Of.Object.LAST _ c.in-Some-from_word.n.0 = named (number_kind _ g.R.Of.Object.LAST) c.from_word.ensures c.in-Some-from_word.is in
    let same = c.in-Some.ensures.cases.same in
    (rw (same, ← c.is_valid.ensures) c.if-not-is_valid.false, omega (arith, number), omega (arith, number), rw c.exists.ensures at c.if-exists.true)

pub offset_bounds-rows-i : goal.offset_bounds-rows-i
offset_bounds-rows-i g c = let h : c.loop-i.i < length c.args.rows.now = omega (arith, c.loop-i-test.true, c.LAST-i-end.ensures, c.LAST.ensures, c.if-rows-LAST.false) in search rules

pub loop-i-preserved : goal.loop-i-preserved
loop-i-preserved g c =
    let number : Names g.R.Of.Object.LAST _ c.in-Some-from_word.n.0 = named (number_kind _ g.R.Of.Object.LAST) c.from_word.ensures c.in-Some-from_word.is in
    let n : c.in-Some-from_word.n.0 ≡ suc c.loop-i.i = omega (arith, number.0) in
    let same = c.in-Some.ensures.cases.same in
    let exists = g.R.Row.exists c.args.state.now in
    let row_of = g.R.Row.row_of c.args.state.now c.args.store.now c.args.outbox.now in
    let there = rw (same, n) at c.exists.ensures in
    elim c.if-exists.branch [
      | then-exists w ↦ record {
        rows = turn-writes exists row_of c.args.rows.now c.loop-i.invariant.rows (omega (arith, c.if-rows-LAST.false)) there w.if-exists.true (rw (same, n) at w.row.ensures) w.rows-is;
        inside = omega arith;
      }
      | else-exists w ↦ record { rows = turn-leaves exists row_of c.args.rows.now c.loop-i.invariant.rows there w.if-exists.false w.rows-is; inside = omega arith }
    ]

pub returns : goal.returns
unfolding board_of
returns g c =
    let all : c.loop-i.i ≡ g.R.Of.Object.LAST = omega (arith, c.loop-i.invariant.inside, c.loop-i-test.false, c.LAST-i-end.ensures) in
    rw (← c.is_valid.ensures, c.if-not-is_valid.false, le-ltb (length c.args.rows.now) g.R.Of.Object.LAST (omega (arith, c.if-rows-LAST.false, c.LAST.ensures)), c.loop-i.invariant.rows, all)
