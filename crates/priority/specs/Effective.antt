-- Results of effective priorities. Assumes nothing.
use Prim.Native.Nat.{ℕ, suc, ◌≤◌, ◌<◌}
use Rattle.std.proofs.Common.{le_antisymm, arith}
use Rattle.std.specs.Prelude.{◌≡◌, refl, length}
use Rattle.std.proofs.Math.ListN.{get_or-eq_default}
use Rattle.model.specs.Sizes.{tasks}
use Rattle.model.specs.Facts.{Facts}
use Rattle.model.specs.Priority.{Linked, linked, holder_awaited, own_priority, effective}
use Rattle.model.specs.Kernel.{Kernel, facts, stands_in, with_currents, with_tasks}
use Rattle.model.specs.World.{recompute}
use Rattle.priority.specs.Linked.{linked-agrees, linked-trans}
use Rattle.priority.specs.Least.{least_first, least_at, least_above}

-- the facts do not read current priorities or bits, so a second recompute changes nothing
pub recompute-twice : (k : Kernel) → recompute (recompute k) ≡ recompute k
unfolding recompute with_currents with_tasks facts stands_in
recompute-twice k = refl

-- a task beyond the list of places waits for nothing
pub awaited-ends : (f : Facts) → length f.place ≡ suc tasks → (t : ℕ) → tasks < t → holder_awaited f t ≡ 0
unfolding holder_awaited
awaited-ends f n t h = rw (get_or-eq_default f.place 0 {n = t} (omega arith))

module _ (f : Facts) (n : length f.place ≡ suc tasks) where
  pub effective-own : (t : ℕ) → effective f t ≤ own_priority f t
  unfolding effective
  effective-own t = least_first (own_priority f) (λ x. linked (holder_awaited f) x t) (own_priority f t) tasks

  -- a task that another is linked to is at least as urgent
  pub effective-linked : (x y : ℕ) → 1 ≤ x → x ≤ tasks → y ≤ tasks → Linked (holder_awaited f) x y → effective f y ≤ effective f x
  unfolding effective
  effective-linked x y a b h l =
      least_above own (λ z. linked next z x) (own x) tasks (effective f y)
      (at x a b l)
      (λ z c d e. at z c d (linked-trans next ((linked-agrees next ends z x b).1 e) l))
    where
      next : ℕ → ℕ
      next = holder_awaited f

      own : ℕ → ℕ
      own = own_priority f

      ends : (t : ℕ) → tasks < t → next t ≡ 0
      ends = awaited-ends f n

      at : (z : ℕ) → 1 ≤ z → z ≤ tasks → Linked next z y → effective f y ≤ own z
      at z c d m = least_at own (λ v. linked next v y) (own y) tasks z c d ((linked-agrees next ends z y h).0 m)

  -- in a circle all members have one priority
  pub effective-circle : (x y : ℕ) → 1 ≤ x → x ≤ tasks → 1 ≤ y → y ≤ tasks → Linked (holder_awaited f) x y → Linked (holder_awaited f) y x
      → effective f x ≡ effective f y
  effective-circle x y a b c d l m = le_antisymm (effective-linked y x c d b m) (effective-linked x y a b d l)
