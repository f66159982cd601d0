-- Demand 3's last sentence: "across each call of the list a task's priority differs only if the call changed the base priority, the mutexes or the wait of that task,
-- or of one linked to it, before or after, by a chain of waits on inheritance mutexes." All of it as the ledger has it.
use Rattle.std.specs.Prelude.{◌≡◌, ◌≢◌, ◌⊎◌}
use Rattle.model.proofs.Terms.{ℕ, cond, Option, none, some, List, get_or, eqb, leb, mutexes, ◌!◌, up_to, select, Queue, locking, Linked, holder_awaited, Ledger, standing, ledger_facts}

-- a task that the ledger has
abbrev pub Has : Ledger → ℕ → Type 0
Has l t = get_or l.tasks t none ≢ none

-- "the base priority", 0 of a task that is not there
unfoldable pub base_of : Ledger → ℕ → ℕ
base_of l t = (ledger_facts l).base ! t

-- "the mutexes": the numbers of those that a task holds; 0 is no task
unfoldable pub mutexes_held : Ledger → ℕ → List ℕ
mutexes_held l t = select (λ m. eqb ((ledger_facts l).holder ! m) t) (up_to mutexes)

-- "A task's wait is the line it stands in", the ready line apart, and whatever its place in that line. It is read from the ledger's lines; `wait_of` of `priority` is the same of
-- facts.
unfoldable pub wait_of : Ledger → ℕ → Option Queue
wait_of l t = let q = standing l t in cond (leb locking q.place) (some q) none

-- "one linked to it [..] by a chain of waits on inheritance mutexes": of any length, circles too, the whole chain in one ledger
abbrev pub LinkedIn : Ledger → ℕ → ℕ → Type 0
LinkedIn l x t = Linked (holder_awaited (ledger_facts l)) x t

-- why a task's priority differs: a task that is itself or linked to it, and what changed of that task
pub record Reason (before after : Ledger) (t : ℕ) : Type 0 where
  pub task : ℕ
  pub linked : (task ≡ t) ⊎ (LinkedIn before task t ⊎ LinkedIn after task t)
  pub changed : (base_of before task ≢ base_of after task) ⊎ ((mutexes_held before task ≢ mutexes_held after task) ⊎ (wait_of before task ≢ wait_of after task))
