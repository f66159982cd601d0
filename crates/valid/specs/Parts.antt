-- Parts of the clauses of validity that are asked by a function of their own.
use Rattle.std.specs.Prelude.{ℕ, Bool, not, List, eqb, leb}
use Rattle.model.specs.Lists.{◌!◌, implies, occurrences, select}
use Rattle.model.specs.Facts.{ready, sending}
use Rattle.model.specs.Kernel.{Kernel}

-- of `arrivals`: a task that was started stands once in the order, and a number there is none's or was started
abbrev pub stands_once : Kernel → ℕ → Bool
stands_once k t = implies (leb ready (k.tasks.place ! t)) (eqb (occurrences t k.arrivals) 1)

abbrev pub has_started : Kernel → ℕ → Bool
has_started k t = implies (not (eqb t 0)) (leb ready (k.tasks.place ! t))

-- the numbers that stand there
abbrev pub given : List ℕ → List ℕ
given = select (λ t. not (eqb t 0))

-- of `receiving_task`: a task is no sender at a buffer
abbrev pub no_sender : Kernel → ℕ → ℕ → Bool
no_sender k b s = implies (eqb (k.tasks.place ! s) sending) (not (eqb (k.tasks.object ! s) b))

-- of `current_priorities`: a task's is the same in two states
abbrev pub same_current : Kernel → Kernel → ℕ → Bool
same_current k l t = eqb (k.tasks.current ! t) (l.tasks.current ! t)
