-- Laws of what the words represent. Assumes nothing.
use Prim.Native.Nat.{ℕ, suc, ◌+◌}
use native.Mathlib.Numerals.{add-one}
use mathlib.Core.Path.{◌≡◌, ◌∙◌, refl, ap}
use mathlib.Core.List.{List}
use lib.ListN.{length}
use Rattle.model.specs.Kernel.{Kernel}
use Rattle.model.specs.World.{with_fresh_bits, recompute}
use Rattle.model.specs.Words.{word_count, kernel}
use Rattle.state.specs.Words.{Represents}
use Rattle.priority.specs.Afresh.{worked_out}

pub unchanged : {w : List ℕ} → length w ≡ word_count → Represents w (kernel w)
unchanged l = record { length = l; kernel = refl }

pub onto : {w : List ℕ} {j k : Kernel} → Represents w j → j ≡ k → Represents w k
onto r e = record { length = r.length; kernel = r.kernel ∙ e }

-- the bits are renewed once the priorities are worked out
pub recomputes : (w : List ℕ) {v u : List ℕ} → Represents v (worked_out (kernel w)) → Represents u (with_fresh_bits (kernel v)) → Represents u (recompute (kernel w))
unfolding recompute worked_out
recomputes w a b = onto b (ap with_fresh_bits a.kernel)

-- a loop's turn: x is what n turns have made of the kernel k, and the turn takes x to y
pub turn : (F G : Kernel → ℕ → Kernel) (k : Kernel) (n : ℕ) {x y : List ℕ} → Represents x (F k n) → Represents y (G (kernel x) (n + 1)) → G (F k n) (suc n) ≡ F k (suc n)
    → Represents y (F k (n + 1))
turn F G k n r s e = rw add-one (onto (rw add-one at s) (ap (λ (k : Kernel). G k (suc n)) r.kernel ∙ e))
