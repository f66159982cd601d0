-- A task becomes dormant: it leaves its wait, its base is the initial one again, and it gives up its mutexes.
use mathlib.Core.Logic.{⊎_elim}
use Rattle.model.proofs.Terms.{ℕ, ◌≤◌, arith, ◌≡◌, refl, inr, set-get_or, tasks, ◌!◌, queue, dormant, ready, Kernel, with_arrivals, with_place, with_base, departed, World, with_kernel, recompute, settled, leave_kernel, leave_outbox, leave, become_dormant}
use Rattle.queue.proofs.Listing.{departed-listing}
use Rattle.invariant.specs.Rows.{open_tasks, open_world}
use Rattle.invariant.specs.Invariant.{Invariant, Steady}
use Rattle.invariant.proofs.Exchange.{set_here}
use Rattle.invariant.proofs.Parts.{exiting-exchanged}
use Rattle.invariant.proofs.Moves.{with_row, moved, based}
use Rattle.invariant.proofs.Waits.{steady-settled, moves-idle}
use Rattle.invariant.proofs.Releases.{gave}

module _ {w : World} (s : Steady 0 w) (t : ℕ) (low : 1 ≤ t) (high : t ≤ tasks) (started : ready ≤ w.kernel.tasks.place ! t) where
  abbrev now : Kernel
  now = w.kernel

  -- from here on it may hold mutexes though it is dormant
  owned : Steady t w
  owned = record { invariant = exiting-exchanged s.invariant t (λ m i j z n. s.invariant.of_mutexes.held m i j z z); priorities = s.priorities; bitmap = s.bitmap }

  abbrev fallen : Kernel
  fallen = moved now t (queue dormant 0) 0 0 (departed t now.arrivals)

  fallen-kept : Invariant t fallen w.store (leave_outbox now w.outbox t)
  fallen-kept = moves-idle owned t low high dormant (omega arith) (omega arith) (omega arith) (inr refl) (departed-listing s.invariant.of_tasks.listing t dormant low high (omega arith))

  place : fallen.tasks.place ! t ≡ dormant
  unfolding moved with_row open_tasks
  place = set_here s.invariant.of_tasks.lists.place high dormant

  rebased : Invariant t (with_base fallen t (fallen.tasks.initial ! t)) w.store (leave_outbox now w.outbox t)
  rebased =
      let p = place in
      let initial = ⊎_elim (λ g. absurd (omega (arith, g.0))) (λ g. g.1) (fallen-kept.of_tasks.each t low high).range in
      based fallen-kept t low high (fallen.tasks.initial ! t) (omega arith) initial (λ m i j q n. absurd (n refl)) (λ e. absurd (omega arith))

  -- the world in which it gives up its mutexes
  abbrev left : Kernel
  left = with_place (with_arrivals (leave w t).kernel (departed t (leave w t).kernel.arrivals)) t dormant

  abbrev pub fell : World
  fell = settled (with_kernel (leave w t) (with_base left t (left.tasks.initial ! t)))

  pub fell-steady : Steady t fell
  unfolding leave leave_kernel moved with_row open_tasks open_world
  fell-steady = steady-settled (leave w t) (rw (set-get_or, set-get_or, set-get_or) at rebased)

  pub fell-dormant : fell.kernel.tasks.place ! t ≡ dormant
  unfolding settled recompute leave leave_kernel open_tasks open_world
  fell-dormant = set_here s.invariant.of_tasks.lists.place high dormant

  pub falls-dormant : Steady 0 (become_dormant w t)
  unfolding become_dormant
  falls-dormant = gave t low fell fell-steady fell-dormant
