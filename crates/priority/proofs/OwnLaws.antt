-- Laws of a task's own priority, mutex by mutex, and of who holds ceilings. Assumes nothing.
use Rattle.std.specs.Prelude.{None, Option}
use Prim.Native.Nat.{ℕ, zero, suc, ◌+◌, ◌≤◌, min}
use native.Mathlib.Nat.{add-zero, add-suc, suc-add}
use native.Mathlib.Numerals.{one-add}
use native.Mathlib.Omega.{arith}
use mathlib.Core.Path.{◌≡◌, ◌∙◌, refl, sym}
use mathlib.Core.Logic.{◌⊎◌, inl, inr}
use mathlib.Core.Bool.{Bool, true, false, ◌&&◌, cond, and-true, and-false}
use mathlib.Core.List.{[], map}
use lib.Dec.{eqb}
use borrow.Author.Tests.{eq-eqb, ne_eqb}
use Rattle.model.specs.Sizes.{tasks, mutexes}
use Rattle.model.specs.Lists.{◌!◌, count_from, select, keep}
use Rattle.model.specs.Facts.{ceilinged}
use Rattle.model.specs.Priority.{most_urgent, own_priority}
use Rattle.model.specs.Kernel.{Kernel, facts}
use Rattle.model.specs.Number.{word_number, maybe_task, TaskNumber, maybe_number}
use Rattle.model.proofs.NumberLaws.{Names, NamesNone, numbered-at}
use Rattle.priority.specs.Least.{least}
use Rattle.priority.specs.Own.{own_of, base_of, holds_ceiling, with_ceiling_of, ceiling_holder}

-- a number in the range names something
pub inside : {n last : ℕ} {A : Type 0} → 1 ≤ n → n ≤ last → NamesNone last n → A
inside a b (inl e) = absurd (omega arith)
inside a b (inr e) = absurd (omega arith)

-- ---- mutex by mutex

-- one number more among those that the most urgent is taken of
module _ (f : ℕ → ℕ) (p : ℕ → Bool) where
  abbrev among : ℕ → ℕ → ℕ → ℕ
  among a j n = most_urgent a (map f (select p (count_from j n)))

  among-suc : (a j n : ℕ) → among a j (suc n) ≡ cond (p (j + n)) (min (among a j n) (f (j + n))) (among a j n)
  among-suc a j zero = rw add-zero (go (p j))
    where
      go : (b : Bool) → most_urgent a (map f (keep b j [])) ≡ cond b (min a (f j)) a
      go true = refl
      go false = refl
  among-suc a j (suc n) = rw (add-suc, ← suc-add) (go (p j) (λ b. among-suc b (suc j) n))
    where
      go : (c : Bool) → ((b : ℕ) → among b (suc j) (suc n) ≡ cond (p (suc j + n)) (min (among b (suc j) n) (f (suc j + n))) (among b (suc j) n))
          → most_urgent a (map f (keep c j (select p (count_from (suc j) (suc n)))))
          ≡ cond (p (suc j + n)) (min (most_urgent a (map f (keep c j (select p (count_from (suc j) n))))) (f (suc j + n))) (most_urgent a (map f (keep c j (select p (count_from (suc j) n)))))
      go true rest = rest (min a (f j))
      go false rest = rest a

  least-suc : (a n : ℕ) → least a f p (suc n) ≡ cond (p (suc n)) (min (least a f p n) (f (suc n))) (least a f p n)
  least-suc a n = rw one-add at (among-suc a 1 n)

-- the most urgent of the base and the ceilings held of the first n mutexes
unfoldable pub own_so_far : Kernel → ℕ → ℕ → ℕ
own_so_far k t n = least ((facts k).base ! t) (λ m. (facts k).ceiling ! m) (holds_ceiling (facts k) t) n

module _ (k : Kernel) (t : ℕ) where
  pub base-is : 1 ≤ t → k.tasks.base ! t ≡ base_of k t
  unfolding facts
  base-is h = sym (numbered-at k.tasks.base t h)

  pub own-start : 1 ≤ t → k.tasks.base ! t ≡ own_so_far k t 0
  unfolding own_so_far
  own-start h = base-is h

  pub own-step : (n : ℕ) → with_ceiling_of k t (suc n) (own_so_far k t n) ≡ own_so_far k t (suc n)
  unfolding own_so_far with_ceiling_of
  own-step n = sym (least-suc (λ m. (facts k).ceiling ! m) (holds_ceiling (facts k) t) ((facts k).base ! t) n)

  pub own-all : own_so_far k t mutexes ≡ own_of k t
  unfolding own_so_far own_priority
  own-all = refl

-- ---- the tasks that hold ceilings

-- what counts as a task's own priority once the holders of the first n mutexes' ceilings have been asked for theirs
unfoldable pub own_asked : Kernel → ℕ → ℕ → ℕ
own_asked k zero t = base_of k t
own_asked k (suc n) t = cond (eqb (ceiling_holder k (suc n)) t) (own_of k t) (own_asked k n t)

module _ (k : Kernel) (t : ℕ) where
  holder-holds : (m : ℕ) → 1 ≤ t → eqb (ceiling_holder k m) t ≡ holds_ceiling (facts k) t m
  unfolding ceiling_holder
  holder-holds m h = go (eqb ((facts k).mutex_attribute ! m) ceilinged)
    where
      go : (b : Bool) → eqb (cond b ((facts k).holder ! m) 0) t ≡ eqb ((facts k).holder ! m) t && b
      go true = sym (and-true (eqb ((facts k).holder ! m) t))
      go false = ne_eqb 0 t (λ e. absurd (omega arith)) ∙ sym (and-false (eqb ((facts k).holder ! m) t))

  -- asked for already, or no ceiling is held so far
  asked-or : 1 ≤ t → (n : ℕ) → (own_asked k n t ≡ own_of k t) ⊎ (own_asked k n t ≡ own_so_far k t n)
  unfolding own_asked own_so_far with_ceiling_of
  asked-or h zero = inr refl
  asked-or h (suc n) =
      rw (holder-holds (suc n) h, ← own-step k t n) (go (holds_ceiling (facts k) t (suc n)) (asked-or h n))
    where
      go : (b : Bool) → (own_asked k n t ≡ own_of k t) ⊎ (own_asked k n t ≡ own_so_far k t n)
          → (cond b (own_of k t) (own_asked k n t) ≡ own_of k t) ⊎ (cond b (own_of k t) (own_asked k n t) ≡ cond b (min (own_so_far k t n) ((facts k).ceiling ! suc n)) (own_so_far k t n))
      go true e = inl refl
      go false e = e

  -- one holder more has been asked: its own priority counts
  pub asked-holder : (n : ℕ) → ceiling_holder k (suc n) ≡ t → own_asked k (suc n) t ≡ own_of k t
  unfolding own_asked
  asked-holder n e = rw (eq-eqb _ _ e)

  pub asked-other : (n : ℕ) → (ceiling_holder k (suc n) ≡ t → ⊥) → own_asked k (suc n) t ≡ own_asked k n t
  unfolding own_asked
  asked-other n e = rw (ne_eqb _ _ e)

  -- when all have been asked, it is the own priority
  pub asked-all : 1 ≤ t → own_asked k mutexes t ≡ own_of k t
  asked-all h = go (asked-or h mutexes)
    where
      go : (own_asked k mutexes t ≡ own_of k t) ⊎ (own_asked k mutexes t ≡ own_so_far k t mutexes) → own_asked k mutexes t ≡ own_of k t
      go (inl e) = e
      go (inr e) = e ∙ own-all k t

-- ---- the mutex that a number names

module _ (k : Kernel) {n m : ℕ} (names : Names mutexes n m) where
  low : 1 ≤ m
  low = omega arith

  -- its ceiling counts for a task, or not
  module _ (t p : ℕ) where
    pub ceiling-held : k.mutexes.holder ! m ≡ t → k.mutexes.attribute ! m ≡ ceilinged → min p (k.mutexes.ceiling ! m) ≡ with_ceiling_of k t n p
    unfolding with_ceiling_of facts
    ceiling-held q e =
        rw (← names.0, numbered-at k.mutexes.holder m low, numbered-at k.mutexes.attribute m low, numbered-at k.mutexes.ceiling m low, eq-eqb _ _ q, eq-eqb _ _ e)

    pub not-holder : (k.mutexes.holder ! m ≡ t → ⊥) → p ≡ with_ceiling_of k t n p
    unfolding with_ceiling_of facts
    not-holder q = rw (← names.0, numbered-at k.mutexes.holder m low, ne_eqb _ _ q)

    pub not-ceilinged : (k.mutexes.attribute ! m ≡ ceilinged → ⊥) → p ≡ with_ceiling_of k t n p
    unfolding with_ceiling_of facts
    not-ceilinged q =
        rw (← names.0, numbered-at k.mutexes.attribute m low, ne_eqb _ _ q, and-false)

  -- its ceiling counts, or not
  pub holder-counts : k.mutexes.attribute ! m ≡ ceilinged → k.mutexes.holder ! m ≡ ceiling_holder k n
  unfolding ceiling_holder facts
  holder-counts e = rw (← names.0, numbered-at k.mutexes.attribute m low, numbered-at k.mutexes.holder m low, eq-eqb _ _ e)

  pub holder-not : (k.mutexes.attribute ! m ≡ ceilinged → ⊥) → None ≡ maybe_task (word_number (ceiling_holder k n) tasks)
  unfolding ceiling_holder facts maybe_number word_number
  holder-not e = rw (← names.0, numbered-at k.mutexes.attribute m low, ne_eqb _ _ e)
