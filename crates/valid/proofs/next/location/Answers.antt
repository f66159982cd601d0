-- `location` meets its contract: the check, the number, the entry, and then where the message lies. Assumes nothing.
use mathlib.Core.Bool.{not}
use mathlib.Core.Path.{ap}
use mir.Facts.{to_z-of_z}
use Rattle.model.specs.Words.{sizes}
use Rattle.valid.proofs.Shown.{not_valid, are_words, no_number, no_buffer, by-located}
use Rattle.valid.proofs.next.location.Goals as goal

pub returns-then-not-is_valid : goal.returns-then-not-is_valid
returns-then-not-is_valid c = search not_valid

pub returns-in_default : goal.returns-in_default
unfolding sizes
returns-in_default c = absurd (c.in_default.ensures.cases (are_words _ _ _ _ c.is_valid.ensures (ap not c.if-not-is_valid.false)))

pub returns-in_default-found : goal.returns-in_default-found
returns-in_default-found c =
    no_number _ _ _ _ _ c.is_valid.ensures (ap not c.if-not-is_valid.false) _ (to_z-of_z c.ranges.n) c.from_field-found.ensures c.in_default-found.is

pub returns-then-exists-eq0 : goal.returns-then-exists-eq0
returns-then-exists-eq0 c =
    let same = c.in-Some.ensures.cases.same in
    no_buffer _ _ _ _ _ c.is_valid.ensures (ap not c.if-not-is_valid.false) _ (to_z-of_z c.ranges.n) c.from_field-found.ensures _ c.in-Some-found.is _ (rw same at c.exists.ensures)
    c.if-exists-eq0.true

pub returns : goal.returns
returns c =
    let same = c.in-Some.ensures.cases.same in
    by-located _ _ _ _ _ c.is_valid.ensures (ap not c.if-not-is_valid.false) _ (to_z-of_z c.ranges.n) c.from_field-found.ensures _ c.in-Some-found.is _ (rw same at c.exists.ensures)
    c.if-exists-eq0.false _ (rw same at c.located.ensures)
