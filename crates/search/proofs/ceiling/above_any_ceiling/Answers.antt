-- `above_any_ceiling` meets its contract: what is asked of each mutex is the sentence, since the task waits for the one that was read. Assumes nothing.
use Prim.Native.Nat.{ℕ, zero, suc, ◌+◌, ◌≤◌, ◌<◌}
use native.Mathlib.Omega.{arith}
use mathlib.Core.Path.{◌≡◌, ◌∙◌, refl}
use mathlib.Core.Bool.{Bool, ◌&&◌, ◌||◌}
use lib.Dec.{eqb, ltb}
use Rattle.model.specs.Sizes.{mutexes}
use Rattle.model.specs.Lists.{◌!◌, any, up_to, count_from}
use Rattle.model.specs.Facts.{queue, locking, ceilinged}
use Rattle.model.specs.Kernel.{Kernel, stands_in}
use Rattle.model.specs.Refusal.{above_ceiling}
use Rattle.search.proofs.ceiling.above_any_ceiling.Goals as goal

-- two tests that agree on numbers from a on hold of any of them alike
any-agree : (p q : ℕ → Bool) (a n : ℕ) → ((x : ℕ) → a ≤ x → x < a + n → p x ≡ q x) → any p (count_from a n) ≡ any q (count_from a n)
any-agree p q a zero h = refl
any-agree p q a (suc n) h = rw (h a (omega arith) (omega arith), any-agree p q (suc a) n (λ x low high. h x (omega arith) (omega arith)))

module _ (k : Kernel) (base t w : ℕ) where
  abbrev asked : ℕ → Bool
  asked n = eqb (k.mutexes.attribute ! n) ceilinged && (eqb (k.mutexes.holder ! n) t || eqb w n) && ltb base (k.mutexes.ceiling ! n)

  by-awaited : ((m : ℕ) → 1 ≤ m → eqb w m ≡ stands_in k (queue locking m) t) → any asked (up_to mutexes) ≡ any (above_ceiling k base t) (up_to mutexes)
  unfolding above_ceiling
  by-awaited h = any-agree asked (above_ceiling k base t) 1 mutexes (λ x low high. rw (h x low))

pub returns : goal.returns
returns c = c.any.ensures ∙ by-awaited _ _ _ _ c.awaited-mutex.ensures
