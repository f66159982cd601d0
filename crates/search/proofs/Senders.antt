-- The first sender of a buffer, if its message fits, as the code finds it. Assumes nothing.
use Rattle.std.specs.Prelude.{None, Option, Some}
use Prim.Native.Nat.{ℕ}
use mathlib.Core.Path.{◌≡◌, ◌∙◌, refl, sym}
use mathlib.Core.Logic.{◌≢◌}
use mathlib.Core.Bool.{Bool, true, false, not, cond}
use lib.IntN.{ℤ, pos}
use lib.Signed.{lt_z}
use borrow.Author.Tests.{ne_eqb}
use Rattle.model.specs.Lists.{◌!◌}
use Rattle.model.specs.Code.{saturated}
use Rattle.model.specs.Number.{maybe_task, TaskNumber}
use Rattle.model.specs.Facts.{queue, sending}
use Rattle.model.specs.Kernel.{Kernel}
use Rattle.model.specs.Message.{room}
use Rattle.model.specs.World.{queue_front}
use Rattle.model.specs.Act.{first_fits}
use Rattle.model.proofs.NumberLaws.{task-is, task-is-none, task-zero}
use Rattle.message.proofs.RoomLaws.{lacks-asked}

abbrev first_of : Kernel → ℕ → ℕ
first_of k b = cond (first_fits k b) (queue_front k (queue sending b)) 0

module _ (k : Kernel) (b : ℕ) {c : ℕ} {f : Option TaskNumber} (c-is : c ≡ b) (f-is : f ≡ maybe_task (queue_front k (queue sending c))) where
  pub finds-nobody : f ≡ None → None ≡ maybe_task (first_of k b)
  unfolding first_fits
  finds-nobody e = let z : queue_front k (queue sending b) ≡ 0 = rw c-is at (task-is-none _ (sym f-is ∙ e)) in sym (task-zero _ (rw z))

  module _ {t : TaskNumber} (e : f ≡ Some t) {used bufsz n : ℕ} {r y : ℤ} (used-is : used ≡ k.buffers.used ! b) (bufsz-is : bufsz ≡ k.buffers.bufsz ! b)
      (n-is : n ≡ k.tasks.argument ! t.0) (r-is : r ≡ saturated (room bufsz used n)) (y-is : y ≡ r) where
    decides : first_fits k b ≡ not (lt_z y (pos 0))
    unfolding first_fits
    decides =
        let named = rw c-is at (task-is _ _ (sym f-is ∙ e)) in
        rw (ne_eqb (queue_front k (queue sending b)) 0 named.1, ← named.0, ← n-is) (lacks-asked k b n bufsz-is used-is r-is y-is)

    pub finds-none : lt_z y (pos 0) ≡ true → None ≡ maybe_task (first_of k b)
    finds-none h = sym (task-zero _ (rw (decides, h)))

    pub finds-first : lt_z y (pos 0) ≡ false → Some t ≡ maybe_task (first_of k b)
    finds-first h = sym e ∙ rw (decides, h) (rw c-is at f-is)

module _ (k : Kernel) (b : ℕ) {f : Option TaskNumber} (f-is : f ≡ maybe_task (first_of k b)) where
  pub first-none : f ≡ None → first_fits k b ≡ false
  first-none e = go (first_fits k b) refl (task-is-none _ (sym f-is ∙ e))
    where
      go : (r : Bool) → first_fits k b ≡ r → cond r (queue_front k (queue sending b)) 0 ≡ 0 → r ≡ false
      go true y z = sym y ∙ (unfold first_fits in rw z)
      go false y z = refl

  pub first_some : {t : TaskNumber} → f ≡ Some t → (first_fits k b ≡ true) × (t.0 ≡ queue_front k (queue sending b))
  first_some {t} e = go (first_fits k b) refl (task-is _ _ (sym f-is ∙ e))
    where
      go : (r : Bool) → first_fits k b ≡ r → (t.0 ≡ cond r (queue_front k (queue sending b)) 0) × (cond r (queue_front k (queue sending b)) 0 ≢ 0)
          → (r ≡ true) × (t.0 ≡ queue_front k (queue sending b))
      go true y z = (refl, z.0)
      go false y z = absurd (z.1 refl)
