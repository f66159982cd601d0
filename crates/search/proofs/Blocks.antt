-- A pool's blocks: a search for the first free one, and a field that names one that is handed out. Assumes nothing.
use Prim.Native.Nat.{ℕ, ◌+◌, ◌≤◌, ◌<◌}
use native.Mathlib.Omega.{arith}
use mathlib.Core.Path.{◌≡◌, ◌∙◌, sym}
use mathlib.Core.Bool.{true, false, ◌&&◌, true≢false}
use mathlib.Core.List.{◌∷◌}
use lib.Dec.{eqb, leb}
use lib.IntN.{ℤ, pos, negsuc}
use lib.Signed.{lt_z}
use Rattle.model.specs.Lists.{◌!◌, first_where}
use Rattle.model.specs.Code.{number}
use Rattle.model.specs.Kernel.{Kernel, slot}
use Rattle.model.specs.Refusal.{free_block, handed_out}
use Rattle.model.proofs.Rest.{numbers, rest_all, rest-here, rest-done}
use Rattle.search.proofs.Searches.{is_zero, zero-here, zero-later}
use Rattle.search.proofs.Sums.{not-above}

-- ---- "the smallest free block": the first i are taken, and the others decide

abbrev flags : Kernel → ℕ → ℕ → ℕ
flags k p b = k.pools.taken ! slot p b

pub record Searched (k : Kernel) (p count i : ℕ) : Type 0 where
  pub rest : free_block k p ≡ first_where (is_zero (flags k p)) (numbers count (i + 1))

pub search-all : (k : Kernel) (p count : ℕ) → count ≡ k.pools.count ! p → Searched k p count 0
unfolding free_block
search-all k p count e = record { rest = rw (← e) (rest_all (first_where (is_zero (flags k p))) count) }

module _ {k : Kernel} {p count i : ℕ} (searched : Searched k p count i) where
  module _ (h : i < count) (v : ℕ) (e : v ≡ flags k p (i + 1)) where
    here : free_block k p ≡ first_where (is_zero (flags k p)) ((i + 1) ∷ numbers count (i + 1 + 1))
    here = searched.rest ∙ rest-here (first_where (is_zero (flags k p))) count (i + 1) (omega arith)

    pub search-hit : v ≡ 0 → i + 1 ≡ free_block k p
    search-hit z = sym (here ∙ zero-here (flags k p) (numbers count (i + 1 + 1)) e z)

    pub search-more : (v ≡ 0 → ⊥) → Searched k p count (i + 1)
    search-more d = record { rest = here ∙ zero-later (flags k p) (numbers count (i + 1 + 1)) e d }

  pub search-done : count ≤ i → 0 ≡ free_block k p
  search-done h = sym (searched.rest ∙ rest-done (first_where (is_zero (flags k p))) count (i + 1) (omega arith))

-- ---- a block by a field

module _ (k : Kernel) (p : ℕ) where
  pub not-handed : (block : ℤ) → lt_z block (pos 1) ≡ true → false ≡ handed_out k p block
  unfolding handed_out
  not-handed block e = rw e

  pub by_flag : (block : ℤ) (b count flag : ℕ) → lt_z block (pos 1) ≡ false → b ≡ number block → count ≡ k.pools.count ! p → flag ≡ flags k p b
      → leb b count && eqb flag 1 ≡ handed_out k p block
  unfolding handed_out
  by_flag (pos n) b count flag e g c f = rw (g, ← c, f, g, e, ← not-above n count)
  by_flag (negsuc n) b count flag e g c f = absurd (true≢false e)
