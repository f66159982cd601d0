-- Demand 3's last sentence over any two facts, one before and one after: what of a task is as it was, and whose priority then is. Assumes nothing.
use Rattle.std.specs.Prelude.{◌≤◌, ◌≡◌}
use Rattle.model.proofs.Terms.{ℕ, suc, cond, Option, none, some, length, eqb, leb, tasks, ◌!◌, Queue, queue, locking, Facts, Linked, holder_awaited, effective}

-- "A task's wait is the line it stands in, the ready line apart."
unfoldable pub wait_of : Facts → ℕ → Option Queue
wait_of f t = cond (leb locking (f.place ! t)) (some (queue (f.place ! t) (f.object ! t))) none

-- what a task holds of a mutex: nothing, or the mutex with its attribute and ceiling
unfoldable pub held : Facts → ℕ → ℕ → Option (ℕ × ℕ)
held f t m = cond (eqb (f.holder ! m) t) (some (f.mutex_attribute ! m, f.ceiling ! m)) none

-- base, wait and mutexes of a task are as they were
pub record Unchanged (f g : Facts) (t : ℕ) : Type 0 where
  pub base : f.base ! t ≡ g.base ! t
  pub wait : wait_of f t ≡ wait_of g t
  pub mutexes : (m : ℕ) → held f t m ≡ held g t m

-- A priority differs only if one of these changed of the task, or of a task linked to it before or after.
abbrev pub SameEffective : Type 0
SameEffective =
    (f g : Facts) → length f.place ≡ suc tasks → length g.place ≡ suc tasks → (t : ℕ) → t ≤ tasks → Unchanged f g t
    → ((x : ℕ) → Linked (holder_awaited f) x t → Unchanged f g x) → ((x : ℕ) → Linked (holder_awaited g) x t → Unchanged f g x)
    → effective f t ≡ effective g t
