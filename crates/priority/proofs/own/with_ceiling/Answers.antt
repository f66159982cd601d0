-- `with_ceiling` meets its contract: each test picks a case. Assumes nothing.
use borrow.Author.Rules.{rules}
use native.Mathlib.Omega.{arith}
use Prim.Native.Nat.{ℕ, min}
use mathlib.Core.Path.{◌≡◌, ◌∙◌, sym}
use Rattle.model.specs.Sizes.{mutexes}
use Rattle.model.specs.Lists.{◌!◌}
use Rattle.model.proofs.NumberLaws.{Names, mutex-there, mutex-none}
use Rattle.model.specs.Words.{kernel}
use Rattle.priority.specs.Own.{with_ceiling_of}
use Rattle.priority.proofs.OwnLaws.{inside, ceiling-held, not-holder, not-ceilinged}
use Rattle.priority.proofs.own.with_ceiling.Goals as goal

pub returns-in_default : goal.returns-in_default
returns-in_default c = inside (search rules) (search rules) (mutex-none _ (sym c.from_word.ensures ∙ c.in_default.is))

pub returns-then-holder-word : goal.returns-then-holder-word
returns-then-holder-word c =
    let mutex : ℕ = c.in-Some.m.0 in
    let is-mutex : Names mutexes c.args.n (mutex) = mutex-there _ _ (sym c.from_word.ensures ∙ c.in-Some.is) in
    not-holder _ (is-mutex) _ _ (λ q. c.if-holder-word.true (c.holder.ensures ∙ q ∙ sym c.word.ensures))

pub returns-then-attribute-ne-CEILINGED : goal.returns-then-attribute-ne-CEILINGED
returns-then-attribute-ne-CEILINGED c =
    let mutex : ℕ = c.in-Some.m.0 in
    let is-mutex : Names mutexes c.args.n (mutex) = mutex-there _ _ (sym c.from_word.ensures ∙ c.in-Some.is) in
    not-ceilinged _ (is-mutex) _ _ (λ q. c.if-attribute-ne-CEILINGED.true (c.attribute.ensures ∙ q))

pub returns-then-c-p : goal.returns-then-c-p
returns-then-c-p c =
    let mutex : ℕ = c.in-Some.m.0 in
    let is-mutex : Names mutexes c.args.n (mutex) = mutex-there _ _ (sym c.from_word.ensures ∙ c.in-Some.is) in
    let counts : let a = c.args in let k = kernel a.state.now in min a.p (k.mutexes.ceiling ! mutex) ≡ with_ceiling_of k a.t.0 a.n a.p = ceiling-held _ (is-mutex) _ _
    (sym c.holder.ensures ∙ c.if-holder-word.false ∙ c.word.ensures)
    (sym c.attribute.ensures ∙ c.if-attribute-ne-CEILINGED.false) in
    omega (arith, counts, c.ceiling-c.ensures)

pub returns-else-c-p : goal.returns-else-c-p
returns-else-c-p c =
    let mutex : ℕ = c.in-Some.m.0 in
    let is-mutex : Names mutexes c.args.n (mutex) = mutex-there _ _ (sym c.from_word.ensures ∙ c.in-Some.is) in
    let counts : let a = c.args in let k = kernel a.state.now in min a.p (k.mutexes.ceiling ! mutex) ≡ with_ceiling_of k a.t.0 a.n a.p = ceiling-held _ (is-mutex) _ _
    (sym c.holder.ensures ∙ c.if-holder-word.false ∙ c.word.ensures)
    (sym c.attribute.ensures ∙ c.if-attribute-ne-CEILINGED.false) in
    omega (arith, counts, c.ceiling-c.ensures)
