-- A rule of a table, proved at all of its entries by one equation of lists that antt computes. Assumes nothing.
use Prim.Native.Nat.{ℕ, zero, suc, ◌+◌, ◌<◌}
use native.Mathlib.Nat.{add-zero, zero-add, add-suc, suc-add, le_of_suc-le-suc, not-suc-le-zero}
use mathlib.Core.Path.{◌≡◌}
use mathlib.Core.List.{map}
use Rattle.model.specs.Lists.{count_from}

-- two functions that agree on a list of n numbers from a on agree at each of them
pub agree : {A : Type 0} (f g : ℕ → A) (a n i : ℕ) → map f (count_from a n) ≡ map g (count_from a n) → i < n → f (a + i) ≡ g (a + i)
agree f g a zero i e h = absurd (not-suc-le-zero h)
agree f g a (suc n) zero e h = rw add-zero (cc)
agree f g a (suc n) (suc i) e h = rw (add-suc, ← suc-add) (agree f g (suc a) n i (cc) (le_of_suc-le-suc h))

pub agree-from-0 : {A : Type 0} (f g : ℕ → A) (n i : ℕ) → map f (count_from 0 n) ≡ map g (count_from 0 n) → i < n → f i ≡ g i
agree-from-0 f g n i e h = rw zero-add at (agree f g 0 n i e h)
