-- The running task of any state is a task that is ready, or 0 where there is none. Assumes nothing.
use Prim.Native.Nat.{ℕ}
use native.Mathlib.Decide.{ℕ_discrete}
use mathlib.Core.Path.{◌≡◌, refl, sym, subst}
use mathlib.Core.Logic.{◌≢◌, ◌⊎◌, inl, inr}
use mathlib.Core.Bool.{true}
use mathlib.Core.List.{List, [], ◌∷◌}
use lib.Dec.{eqb}
use Rattle.model.specs.Sizes.{tasks, priorities}
use Rattle.model.specs.Lists.{◌!◌, up_to, member, first_where, select}
use Rattle.model.specs.Facts.{ready_queue}
use Rattle.model.specs.Queue.{search_ready, next_to_run}
use Rattle.model.specs.Kernel.{Kernel, stands_in, facts}
use Rattle.model.specs.World.{running}
use Rattle.model.specs.Valid.{From}
use Rattle.model.proofs.ListLaws.{member-middle}
use Rattle.queue.proofs.ArrivalLaws.{member-select}
use Rattle.queue.proofs.Standing.{stands-task}
use Rattle.queue.proofs.NextToRun.{SearchOutcome, first_where-finds, search-none, search-hit}

-- a search finds nobody, or one of those that it looks through
Somebody : List ℕ → ℕ → Type 0
Somebody ts u = (u ≡ 0) ⊎ (member u ts ≡ true)

search-somebody : (current ts ps : List ℕ) → Somebody ts (search_ready current ts ps)
unfolding Somebody
search-somebody current ts [] = inl refl
search-somebody current ts (p ∷ ps) = go (ℕ_discrete found 0) (first_where-finds (λ u. eqb (current ! u) p) ts) (search-somebody current ts ps)
  where
    found : ℕ
    found = first_where (λ u. eqb (current ! u) p) ts

    there : found ≢ 0 → SearchOutcome (λ u. eqb (current ! u) p) ts found → member found ts ≡ true
    there h (inl n) = absurd (h n.1)
    there h (inr f) = subst (λ (l : List ℕ). member found l ≡ true) (sym f.split) (member-middle found f.before f.behind)

    go : Dec (found ≡ 0) → SearchOutcome (λ u. eqb (current ! u) p) ts found → Somebody ts (search_ready current ts ps) → Somebody ts (search_ready current ts (p ∷ ps))
    go (yes e) o rest = rw (search-none current ts p ps e) rest
    go (no n) o rest = rw (search-hit current ts p ps found n refl) (inr (there n o))

module _ (k : Kernel) where
  somebody : Somebody (select (stands_in k ready_queue) k.arrivals) (running k)
  unfolding running next_to_run facts
  somebody = search-somebody k.tasks.current (select (stands_in k ready_queue) k.arrivals) (up_to priorities)

  pub running-stands : running k ≢ 0 → stands_in k ready_queue (running k) ≡ true
  unfolding Somebody
  running-stands h = go somebody
    where
      go : Somebody (select (stands_in k ready_queue) k.arrivals) (running k) → stands_in k ready_queue (running k) ≡ true
      go (inl e) = absurd (h e)
      go (inr m) = (member-select (stands_in k ready_queue) (running k) k.arrivals m).0

  pub running-task : (running k ≡ 0) ⊎ From 1 tasks (running k)
  running-task = go (ℕ_discrete (running k) 0)
    where
      go : Dec (running k ≡ 0) → (running k ≡ 0) ⊎ From 1 tasks (running k)
      go (yes e) = inl e
      go (no n) = inr (stands-task k ready_queue (running k) (running-stands n))
