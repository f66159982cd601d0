-- Laws of the two walks: each way through the code. Assumes nothing.
use Rattle.std.specs.Prelude.{None, Option}
use Prim.Native.Nat.{ℕ, suc, ◌≤◌, ◌<◌}
use native.Mathlib.Omega.{arith}
use mathlib.Core.Path.{◌≡◌, ◌∙◌, refl, sym, ap}
use mathlib.Core.Logic.{inl}
use mathlib.Core.Bool.{Bool, true, false, ◌&&◌, cond}
use mathlib.Core.List.{List}
use lib.ListN.{length, length-drop}
use lib.Dec.{eqb}
use borrow.Author.Tests.{eq-eqb, ne_eqb}
use Rattle.model.specs.Sizes.{tasks, mutexes}
use Rattle.model.specs.Lists.{◌!◌}
use Rattle.model.specs.Facts.{locking, inherits}
use Rattle.model.specs.Priority.{holder_awaited}
use Rattle.model.specs.Kernel.{Kernel, facts, stands_in, with_tasks, with_current, with_currents}
use Rattle.model.specs.Number.{word_number, maybe_mutex, MutexNumber, maybe_number}
use Rattle.model.proofs.NumberLaws.{Names, NamesNone, numbered-at, numbered-none}
use Rattle.model.specs.Words.{word_count, sizes, fields, kernel}
use Rattle.state.proofs.WordLaws.{places-long, sized, size_of, currents-long}
use Rattle.state.specs.Words.{Represents}
use Rattle.model.specs.Field as field
use Rattle.priority.specs.Walk.{mutex_awaited, passes_to, awaited, raised_kernel}
use Rattle.priority.specs.Afresh.{passed_on}
use Rattle.priority.proofs.StepLaws.{unvisited, LessUrgent, visits, Stops, stops, walk-on}

-- a walk stops at once where the task is as urgent already, or none
pub stays : (k : Kernel) (v p : ℕ) → Stops k.tasks.current v p → k ≡ raised_kernel k v p
unfolding raised_kernel with_currents with_tasks
stays k v p s = ap (with_currents k) (sym (stops (awaited k) p (suc tasks) s))

module _ (w : List ℕ) (l : length w ≡ word_count) where
  pub place-length : length (facts (kernel w)).place ≡ suc tasks
  unfolding facts
  place-length = let h = places-long w l in simp length-drop (omega arith)

  -- a number that names no mutex passes nothing on
  passes_none : (m : ℕ) → NamesNone mutexes m → passes_to (facts (kernel w)) m ≡ 0
  unfolding passes_to facts fields sizes
  passes_none m none = rw (numbered-none mutexes (kernel w).mutexes.attribute m (size_of (kernel w) (sized w l) field.mutex_attribute) none, eqb)

  -- a task leads to what its mutex leads to
  leads : (t : ℕ) → awaited (kernel w) t ≡ passes_to (facts (kernel w)) (mutex_awaited (facts (kernel w)) t)
  unfolding holder_awaited mutex_awaited passes_to
  leads t = go (eqb ((facts (kernel w)).place ! t) locking)
    where
      go : (b : Bool)
          → cond (b && eqb ((facts (kernel w)).mutex_attribute ! ((facts (kernel w)).object ! t)) inherits) ((facts (kernel w)).holder ! ((facts (kernel w)).object ! t)) 0
          ≡ passes_to (facts (kernel w)) (cond b ((facts (kernel w)).object ! t) 0)
      go true = unfold passes_to in refl
      go false = sym (passes_none 0 (inl refl))

  module _ (t p : ℕ) where
    pub waits-not : NamesNone mutexes (mutex_awaited (facts (kernel w)) t) → kernel w ≡ raised_kernel (kernel w) (awaited (kernel w) t) p
    waits-not none = stays (kernel w) (awaited (kernel w) t) p (inl (inl (leads t ∙ passes_none (mutex_awaited (facts (kernel w)) t) none)))

    pub waits-for : {m : ℕ} → Names mutexes (mutex_awaited (facts (kernel w)) t) m
        → raised_kernel (kernel w) (passes_to (facts (kernel w)) m) p ≡ raised_kernel (kernel w) (awaited (kernel w) t) p
    waits-for names = ap (λ (u : ℕ). raised_kernel (kernel w) u p) (ap (passes_to (facts (kernel w))) names.0 ∙ sym (leads t))

-- ---- a task passes its current priority on

module _ (w : List ℕ) (l : length w ≡ word_count) (t : ℕ) where
  pub passed-nowhere : NamesNone mutexes (mutex_awaited (facts (kernel w)) t) → kernel w ≡ passed_on (kernel w) t
  unfolding passed_on
  passed-nowhere = waits-not w l t ((kernel w).tasks.current ! t)

  pub passed_to : {m p : ℕ} → Names mutexes (mutex_awaited (facts (kernel w)) t) m → p ≡ (kernel w).tasks.current ! t
      → raised_kernel (kernel w) (passes_to (facts (kernel w)) m) p ≡ passed_on (kernel w) t
  unfolding passed_on
  passed_to names e = rw e (waits-for w l t ((kernel w).tasks.current ! t) names)

-- ---- a task's walk: it has been raised alone, which takes the words w to x

pub record RaisedAlone (w x : List ℕ) (v p : ℕ) : Type 0 where
  pub size : length w ≡ word_count
  pub low : 1 ≤ v
  pub high : v ≤ tasks
  pub less : p < (kernel w).tasks.current ! v
  pub now : Represents x (with_current (kernel w) v p)

module _ {w x : List ℕ} {v p : ℕ} (alone : RaisedAlone w x v p) where
  task : LessUrgent (kernel w).tasks.current v p
  task = record { long = currents-long w alone.size; low = alone.low; high = alone.high; less = alone.less }

  pub fewer : unvisited p (kernel x).tasks.current < unvisited p (kernel w).tasks.current
  unfolding with_current with_tasks
  fewer = rw alone.now.kernel (visits task)

  step : raised_kernel (with_current (kernel w) v p) (awaited (with_current (kernel w) v p) v) p ≡ raised_kernel (kernel w) v p
  unfolding raised_kernel with_current with_currents with_tasks facts stands_in
  step = ap (with_currents (kernel w)) (sym (walk-on (awaited (kernel w)) p task))

  pub raised-on : raised_kernel (kernel x) (awaited (kernel x) v) p ≡ raised_kernel (kernel w) v p
  raised-on = ap (λ (k : Kernel). raised_kernel k (awaited k v) p) alone.now.kernel ∙ step

-- ---- a mutex's walk

module _ (k : Kernel) (m p : ℕ) (low : 1 ≤ m) where
  pub passes-not : (k.mutexes.attribute ! m ≡ inherits → ⊥) → k ≡ raised_kernel k (passes_to (facts k) m) p
  unfolding passes_to facts
  passes-not e = stays k (passes_to (facts k) m) p (inl (inl (rw (numbered-at k.mutexes.attribute m low, ne_eqb _ _ e))))

  module _ (e : k.mutexes.attribute ! m ≡ inherits) where
    passes : k.mutexes.holder ! m ≡ passes_to (facts k) m
    unfolding passes_to facts
    passes = rw (numbered-at k.mutexes.attribute m low, numbered-at k.mutexes.holder m low, eq-eqb _ _ e)

    pub held-not : NamesNone tasks (k.mutexes.holder ! m) → k ≡ raised_kernel k (passes_to (facts k) m) p
    held-not none = stays k (passes_to (facts k) m) p (inl (rw (← passes) none))

    pub held_by : {v : ℕ} → Names tasks (k.mutexes.holder ! m) v → raised_kernel k v p ≡ raised_kernel k (passes_to (facts k) m) p
    held_by names = ap (λ (u : ℕ). raised_kernel k u p) (names.0 ∙ passes)

-- ---- the mutex that a task waits for

module _ (k : Kernel) (t : ℕ) (low : 1 ≤ t) where
  pub locks : k.tasks.place ! t ≡ locking → k.tasks.object ! t ≡ mutex_awaited (facts k) t
  unfolding mutex_awaited facts
  locks e = rw (numbered-at k.tasks.place t low, numbered-at k.tasks.object t low, eq-eqb _ _ e)

  pub locks-not : (k.tasks.place ! t ≡ locking → ⊥) → None ≡ maybe_mutex (word_number (mutex_awaited (facts k) t) mutexes)
  unfolding mutex_awaited facts maybe_number word_number
  locks-not e = rw (numbered-at k.tasks.place t low, ne_eqb _ _ e)
