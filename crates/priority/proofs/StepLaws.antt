-- Laws of a walk over any function from a task to the next one: the measure, and what holds step by step. Assumes nothing.
use Prim.Native.Nat.{ℕ, zero, suc, ◌≤◌, ◌<◌}
use native.Mathlib.Decide.{ℕ_discrete, dec_le}
use native.Mathlib.Omega.{arith}
use mathlib.Core.Path.{◌≡◌, ◌∙◌, refl, sym}
use mathlib.Core.Logic.{◌⊎◌, inl, inr}
use mathlib.Core.Bool.{Bool, true, false, ◌&&◌, not, and-true, and-false}
use mathlib.Core.List.{List, [], ◌∷◌}
use lib.ListN.{length, set, length-set}
use lib.Seq.{get_or-set_same, get_or-set_other}
use lib.Dec.{eqb, ltb}
use borrow.Author.Tests.{lt-ltb, le-ltb, le-leb, lt-leb, eq-eqb, ne_eqb}
use Rattle.model.specs.Sizes.{tasks}
use Rattle.model.specs.Lists.{◌!◌, up_to, member, select, keep, without, within}
use Rattle.model.proofs.ListLaws.{select-member, length-select, without-shorter, member-count_from}
use Rattle.model.proofs.NumberLaws.{Names, NamesNone}
use Rattle.priority.specs.Walk.{walked}

-- ---- a number of a task, or none

pub task-or-none : (n : ℕ) → Names tasks n n ⊎ NamesNone tasks n
task-or-none n = go (dec_le 1 n) (dec_le n tasks)
  where
    go : Dec (1 ≤ n) → Dec (n ≤ tasks) → Names tasks n n ⊎ NamesNone tasks n
    go (yes low) (yes high) = inl (refl, low, high)
    go (yes low) (no high) = inr (inr (omega arith))
    go (no low) d = inr (inl (omega arith))

pub within-task : (n : ℕ) → 1 ≤ n → n ≤ tasks → within 1 tasks n ≡ true
within-task n low high = rw (le-leb 1 n low, le-leb n tasks high)

pub within_none : (n : ℕ) → NamesNone tasks n → within 1 tasks n ≡ false
within_none n (inl e) = rw e
within_none n (inr e) = rw (lt-leb n tasks e, le-leb 1 n (omega arith))

-- ---- the measure

-- how many tasks are not yet visited by a walk that raises to p: those that are less urgent
unfoldable pub unvisited : ℕ → List ℕ → ℕ
unvisited p cs = length (select (λ t. ltb p (cs ! t)) (up_to tasks))

pub unvisited-most : (p : ℕ) (cs : List ℕ) → unvisited p cs ≤ tasks
unfolding unvisited
unvisited-most p cs = length-select (λ t. ltb p (cs ! t)) (up_to tasks)

module _ (f : ℕ → Bool) (v : ℕ) where
  selected : (xs : List ℕ) → member v xs ≡ true → f v ≡ true → member v (select f xs) ≡ true
  selected xs e h = select-member f v xs ∙ rw (h, e)

  -- a test that is the same but for v, which does not pass it
  select-without : (g : ℕ → Bool) → ((x : ℕ) → g x ≡ f x && not (eqb v x)) → (xs : List ℕ) → select g xs ≡ without v (select f xs)
  select-without g each [] = refl
  select-without g each (x ∷ xs) = rw (each x, select-without g each xs) (go (f x))
    where
      go : (b : Bool) → keep (b && not (eqb v x)) x (without v (select f xs)) ≡ without v (keep b x (select f xs))
      go true = refl
      go false = refl

-- a task that is less urgent than p
pub record LessUrgent (cs : List ℕ) (v p : ℕ) : Type 0 where
  pub long : length cs ≡ suc tasks
  pub low : 1 ≤ v
  pub high : v ≤ tasks
  pub less : p < cs ! v

-- raised, it has been visited
pub visits : {cs : List ℕ} {v p : ℕ} → LessUrgent cs v p → unvisited p (set cs v p) < unvisited p cs
unfolding unvisited
visits {cs} {v} {p} task =
    rw (select-without f v (λ t. ltb p (set cs v p ! t)) (λ t. each t (ℕ_discrete t v)) (up_to tasks))
    (without-shorter v (select f (up_to tasks)) (selected f v (up_to tasks) (member-count_from 1 tasks v task.low (omega arith)) (lt-ltb _ _ task.less)))
  where
    f : ℕ → Bool
    f t = ltb p (cs ! t)

    each : (t : ℕ) → Dec (t ≡ v) → ltb p (set cs v p ! t) ≡ f t && not (eqb v t)
    each t (yes q) = rw (q, get_or-set_same cs v p 0 (omega arith), le-ltb p p (omega arith), eq-eqb v v refl, and-false)
    each t (no q) = rw (get_or-set_other cs v t p 0 q, ne_eqb v t (λ e. q (sym e)), and-true)

-- ---- by steps

-- a number at which a walk stops: no task's, or that of one that is as urgent already
abbrev pub Stops : List ℕ → ℕ → ℕ → Type 0
Stops cs v p = NamesNone tasks v ⊎ (cs ! v ≤ p)

module _ (next : ℕ → ℕ) (p : ℕ) where
  goes : (n : ℕ) {cs : List ℕ} {v : ℕ} → LessUrgent cs v p → walked next (suc n) v p cs ≡ walked next n (next v) p (set cs v p)
  unfolding walked
  goes n {cs} {v} task = rw (within-task v task.low task.high, lt-ltb _ _ task.less)

  pub stops : (n : ℕ) {cs : List ℕ} {v : ℕ} → Stops cs v p → walked next n v p cs ≡ cs
  unfolding walked
  stops zero s = refl
  stops (suc n) {cs} {v} (inl none) = rw (within_none v none)
  stops (suc n) {cs} {v} (inr urgent) = rw (le-ltb _ _ urgent, and-false)

  goes-or-stops : (cs : List ℕ) (v : ℕ) → length cs ≡ suc tasks → LessUrgent cs v p ⊎ Stops cs v p
  goes-or-stops cs v long = go (task-or-none v) (dec_le (cs ! v) p)
    where
      go : Names tasks v v ⊎ NamesNone tasks v → Dec (cs ! v ≤ p) → LessUrgent cs v p ⊎ Stops cs v p
      go (inr none) d = inr (inl none)
      go (inl task) (yes urgent) = inr (inr urgent)
      go (inl task) (no less) = inl (record { long = long; low = task.1; high = task.2; less = omega arith })

  -- what holds where a walk stops, and holds at a step if it holds of the rest, holds of every walk that has steps enough
  pub by-steps : (P : ℕ → List ℕ → List ℕ → Type 0)
      → ((cs : List ℕ) (v : ℕ) → length cs ≡ suc tasks → Stops cs v p → P v cs cs)
      → ((cs ds : List ℕ) (v : ℕ) → LessUrgent cs v p → P (next v) (set cs v p) ds → P v cs ds)
      → (n : ℕ) (cs : List ℕ) (v : ℕ) → length cs ≡ suc tasks → unvisited p cs ≤ n → P v cs (walked next n v p cs)
  by-steps P stop step zero cs v long enough = go (goes-or-stops cs v long)
    where
      go : LessUrgent cs v p ⊎ Stops cs v p → P v cs (walked next zero v p cs)
      go (inl task) = absurd (let f = visits task in omega arith)
      go (inr s) = rw (stops zero s) (stop cs v long s)
  by-steps P stop step (suc n) cs v long enough = go (goes-or-stops cs v long) (by-steps P stop step n (set cs v p) (next v) (length-set cs v p ∙ long))
    where
      go : LessUrgent cs v p ⊎ Stops cs v p → (unvisited p (set cs v p) ≤ n → P (next v) (set cs v p) (walked next n (next v) p (set cs v p)))
          → P v cs (walked next (suc n) v p cs)
      go (inl task) rest = rw (goes n task) (step cs _ v task (rest (let f = visits task in omega arith)))
      go (inr s) rest = rw (stops (suc n) s) (stop cs v long s)

  -- how many steps are enough does not matter
  enough : (n m : ℕ) (cs : List ℕ) (v : ℕ) → length cs ≡ suc tasks → unvisited p cs ≤ n → unvisited p cs ≤ m → walked next m v p cs ≡ walked next n v p cs
  enough n m cs v long a b =
      by-steps (λ v cs ds. (m : ℕ) → unvisited p cs ≤ m → walked next m v p cs ≡ ds) (λ cs v long s m e. stops m s) (λ cs ds v task rest m e. step task rest m e) n cs v long a m b
    where
      step : {cs ds : List ℕ} {v : ℕ} → LessUrgent cs v p → ((m : ℕ) → unvisited p (set cs v p) ≤ m → walked next m (next v) p (set cs v p) ≡ ds)
          → (m : ℕ) → unvisited p cs ≤ m → walked next m v p cs ≡ ds
      step task rest zero e = absurd (let f = visits task in omega arith)
      step task rest (suc m) e = goes m task ∙ rest m (let f = visits task in omega arith)

  -- a step takes the walk to the rest
  pub walk-on : {cs : List ℕ} {v : ℕ} → LessUrgent cs v p → walked next (suc tasks) v p cs ≡ walked next (suc tasks) (next v) p (set cs v p)
  walk-on {cs} {v} task =
      goes tasks task
      ∙ enough (suc tasks) tasks (set cs v p) (next v) (length-set cs v p ∙ task.long) (let m = unvisited-most p (set cs v p) in omega arith) (unvisited-most p (set cs v p))
