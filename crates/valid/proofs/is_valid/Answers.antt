-- `is_valid` meets its contract: the lengths, then entry 0 of every list, then the clauses. Assumes nothing.
use mathlib.Core.Bool.{not}
use mathlib.Core.Path.{ap}
use Rattle.model.specs.Words.{sizes}
use Rattle.valid.proofs.Check.{wrong-lengths, right-words, not-zero, none-lists, by-clauses}
use Rattle.valid.proofs.is_valid.Goals as goal

pub returns-then-not-right_lengths : goal.returns-then-not-right_lengths
returns-then-not-right_lengths c = search wrong-lengths

pub returns-in_default : goal.returns-in_default
unfolding sizes
returns-in_default c = absurd (c.in_default.ensures.cases (right-words _ _ _ c.right_lengths.ensures (ap not c.if-not-right_lengths.false)))

pub returns-then-not-none_zero : goal.returns-then-not-none_zero
returns-then-not-none_zero c =
    let same = c.in-Some.ensures.cases.same in
    not-zero _ _ _ c.right_lengths.ensures (ap not c.if-not-right_lengths.false) (rw same at c.none_zero.ensures) (ap not c.if-not-none_zero.true)

pub clauses_hold-requires : goal.clauses_hold-requires
clauses_hold-requires c =
    let n = none-lists _ _ c.none_zero.ensures (ap not c.if-not-none_zero.false) in
    record { task_lists = n.0; mutex_lists = n.1.0; buffer_lists = n.1.1.0; pool_lists = n.1.1.1 }

pub returns : goal.returns
returns c =
    let same = c.in-Some.ensures.cases.same in
    by-clauses _ _ _ c.right_lengths.ensures (ap not c.if-not-right_lengths.false) (rw same at c.none_zero.ensures) (ap not c.if-not-none_zero.false) (rw same at c.clauses_hold.ensures)
