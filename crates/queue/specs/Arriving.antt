-- What the steps of an arrival do to the lent words: the others move to the front, one place after the other.
use Rattle.std.specs.Prelude.{ℕ, ◌+◌, ◌-◌, ◌≤◌, ◌≡◌, Bool, ◌&&◌, not, cond, List, ◌++◌, length, take, drop, set, eqb}
use Rattle.model.specs.Sizes.{tasks}
use Rattle.model.specs.Lists.{◌!◌, zeros}
use Rattle.model.specs.Kernel.{Kernel, others, with_arrivals}
use Rattle.model.specs.Words.{kernel}
use Rattle.state.specs.Words.{Represents}

-- a number that is neither none nor the task
abbrev pub other : ℕ → ℕ → Bool
other t u = not (eqb u 0) && not (eqb u t)

-- one more place seen, with j places filled: its number is kept or passed over
abbrev pub kept_arrivals : ℕ → ℕ → ℕ → List ℕ → List ℕ
kept_arrivals t i j a = cond (other t (a ! i)) (set a j (a ! i)) a

abbrev pub kept_count : ℕ → ℕ → ℕ → List ℕ → ℕ
kept_count t i j a = cond (other t (a ! i)) (j + 1) j

-- one place is seen: the words after it, and how many others have been found
pub record Kept (t i j : ℕ) (w v : List ℕ) (r : ℕ) : Type 0 where
  pub state : Represents v (with_arrivals (kernel w) (kept_arrivals t i j (kernel w).arrivals))
  pub count : r ≡ kept_count t i j (kernel w).arrivals

-- the others stand first
pub record Gathered (t : ℕ) (w v : List ℕ) (r : ℕ) : Type 0 where
  pub state : Represents v (with_arrivals (kernel w) (others t (kernel w).arrivals ++ drop (length (others t (kernel w).arrivals)) (kernel w).arrivals))
  pub count : r ≡ length (others t (kernel w).arrivals)
  pub few : r ≤ tasks

-- the arrivals from one place on are none
abbrev pub cleared_from : ℕ → Kernel → Kernel
cleared_from n k = with_arrivals k (take n k.arrivals ++ zeros (length k.arrivals - n))
