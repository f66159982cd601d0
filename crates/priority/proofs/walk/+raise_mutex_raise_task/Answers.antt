-- Each way through the code of the two walks is a law of `WalkLaws`. Assumes nothing.
use Prim.Native.Nat.{ℕ, ◌≤◌, ◌<◌}
use native.Mathlib.Omega.{arith}
use mathlib.Core.Path.{◌≡◌, ◌∙◌, sym, subst}
use mathlib.Core.Logic.{inr}
use mathlib.Core.List.{List}
use lib.ListN.{length}
use Rattle.model.specs.Sizes.{tasks}
use Rattle.model.specs.Lists.{◌!◌}
use Rattle.model.specs.Kernel.{with_current}
use Rattle.model.proofs.NumberLaws.{task-there, task-none, mutex-there, mutex-none}
use Rattle.model.specs.Words.{word_count, kernel}
use Rattle.state.specs.Words.{Represents}
use Rattle.state.proofs.WordLaws.{long}
use Rattle.priority.proofs.WordLaws.{unchanged, onto}
use Rattle.priority.proofs.WalkLaws.{stays, RaisedAlone, fewer, raised-on, waits-not, waits-for, passes-not, held-not, held_by}
use Rattle.priority.proofs.walk.+raise_mutex_raise_task.Goals as goal

-- ---- a task's walk

-- the task has been raised alone
alone : {w x : List ℕ} {v p q : ℕ} → length w ≡ word_count → 1 ≤ v → v ≤ tasks → q ≡ (kernel w).tasks.current ! v → p < q
    → Represents x (with_current (kernel w) v p) → RaisedAlone w x v p
alone {p = p} size low high is less now =
    record { size = size; low = low; high = high; less = subst (λ (n : ℕ). p < n) is less; now = now }

pub raise_task-returns-then-current-p : goal.raise_task-returns-then-current-p
raise_task-returns-then-current-p t c =
    onto (unchanged (long _ c.told-state)) (stays _ _ _ (inr (subst (λ (n : ℕ). n ≤ c.args.p) c.current.ensures c.if-current-p.true)))

pub raise_task-returns-in_default : goal.raise_task-returns-in_default
raise_task-returns-in_default t c =
    let r = alone (long _ c.told-state) c.requires.le_v c.requires.v_le_tasks c.current.ensures c.if-current-p.false c.set_current.ensures in
    onto (unchanged r.now.length) (waits-not _ r.now.length _ _ (mutex-none _ (sym c.awaited_mutex.ensures ∙ c.in_default.is)) ∙ raised-on r)

pub raise_task-raise_mutex-requires : goal.raise_task-raise_mutex-requires
raise_task-raise_mutex-requires t c =
    let r = alone (long _ c.told-state) c.requires.le_v c.requires.v_le_tasks c.current.ensures c.if-current-p.false c.set_current.ensures in
    let names = mutex-there _ _ (sym c.awaited_mutex.ensures ∙ c.in-Some.is) in
    (omega (arith, c.decreases, fewer r), omega (arith, names.0, names.1))

pub raise_task-returns : goal.raise_task-returns
raise_task-returns t c =
    let r = alone (long _ c.told-state) c.requires.le_v c.requires.v_le_tasks c.current.ensures c.if-current-p.false c.set_current.ensures in
    let names = mutex-there _ _ (sym c.awaited_mutex.ensures ∙ c.in-Some.is) in
    onto c.raise_mutex.ensures (waits-for _ r.now.length _ _ names ∙ raised-on r)

-- ---- a mutex's walk

pub raise_mutex-returns-then-attribute-ne-INHERITS : goal.raise_mutex-returns-then-attribute-ne-INHERITS
raise_mutex-returns-then-attribute-ne-INHERITS t c =
    onto (unchanged (long _ c.told-state)) (passes-not _ _ _ c.requires (λ q. c.if-attribute-ne-INHERITS.true (c.attribute.ensures ∙ q)))

pub raise_mutex-returns-in_default : goal.raise_mutex-returns-in_default
raise_mutex-returns-in_default t c =
    onto (unchanged (long _ c.told-state))
    (held-not _ _ _ c.requires (sym c.attribute.ensures ∙ c.if-attribute-ne-INHERITS.false)
    (task-none _ (sym (rw c.holder.ensures at c.from_word.ensures) ∙ c.in_default.is)))

pub raise_mutex-raise_task-requires : goal.raise_mutex-raise_task-requires
raise_mutex-raise_task-requires t c =
    let names = task-there _ _ (sym (rw c.holder.ensures at c.from_word.ensures) ∙ c.in-Some.is) in
    (omega (arith, c.decreases), (omega (arith, names.0, names.1), omega (arith, names.0, names.2)))

pub raise_mutex-returns : goal.raise_mutex-returns
raise_mutex-returns t c =
    onto c.raise_task.ensures
    (held_by _ _ _ c.requires (sym c.attribute.ensures ∙ c.if-attribute-ne-INHERITS.false)
    (task-there _ _ (sym (rw c.holder.ensures at c.from_word.ensures) ∙ c.in-Some.is)))
