-- `ceiling_holder` meets its contract: each test picks a case. Assumes nothing.
use borrow.Author.Rules.{rules}
use mathlib.Core.Path.{◌∙◌, sym, ap}
use Prim.Native.Nat.{ℕ}
use Rattle.model.specs.Sizes.{tasks, mutexes}
use Rattle.model.specs.Number.{word_number, maybe_task}
use Rattle.model.proofs.NumberLaws.{Names, mutex-there, mutex-none}
use Rattle.model.specs.Words.{kernel}
use Rattle.priority.proofs.OwnLaws.{inside, holder-counts, holder-not}
use Rattle.priority.proofs.own.ceiling_holder.Goals as goal

pub returns-in_default : goal.returns-in_default
returns-in_default c = inside (search rules) (search rules) (mutex-none _ (sym c.from_word.ensures ∙ c.in_default.is))

pub returns-then-attribute-eq-CEILINGED : goal.returns-then-attribute-eq-CEILINGED
returns-then-attribute-eq-CEILINGED c =
    let is-mutex : Names mutexes c.args.n c.in-Some.m.0 = mutex-there _ _ (sym c.from_word.ensures ∙ c.in-Some.is) in
    let holder = holder-counts (kernel c.args.state.now) (is-mutex) (sym c.attribute.ensures ∙ c.if-attribute-eq-CEILINGED.true) in
    c.from_word-then-attribute-eq-CEILINGED.ensures ∙ ap (λ (n : ℕ). maybe_task (word_number n tasks)) (c.holder.ensures ∙ holder)

pub returns-else-attribute-eq-CEILINGED : goal.returns-else-attribute-eq-CEILINGED
returns-else-attribute-eq-CEILINGED c =
    let is-mutex : Names mutexes c.args.n c.in-Some.m.0 = mutex-there _ _ (sym c.from_word.ensures ∙ c.in-Some.is) in
    holder-not (kernel c.args.state.now) (is-mutex) (λ q. c.if-attribute-eq-CEILINGED.false (c.attribute.ensures ∙ q))
