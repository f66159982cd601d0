-- A millisecond passes: a wait with one left ends, a longer one has one less, and one that has no end stays as it is.
use Rattle.model.proofs.Terms.{ℕ, ◌≤◌, pred, ℕ_discrete, arith, ◌≡◌, inl, inr, tasks, endless, ◌!◌, E_TMOUT, queue, facts, stands_in, ready_at, ready_bitmap, World, Nothing, with_kernel, tick_task, tick, perform, Priorities, Bitmap}
use Rattle.model.proofs.ByCase.{tick-none, tick-endless, tick-last, tick-more}
use Rattle.model.specs.declared.call.Call.TheVariants.{Tick}
use Rattle.invariant.specs.Rows.{open_tasks}
use Rattle.invariant.specs.Invariant.{Steady}
use Rattle.invariant.proofs.Moves.{Time, timed}
use Rattle.model.proofs.Folds.{numbers_keep}
use Rattle.invariant.proofs.Waits.{ended}
use Rattle.preservation.proofs.Keeps.{Keeps}

pub ticks-task : {w : World} → Steady 0 w → (t : ℕ) → 1 ≤ t → t ≤ tasks → Steady 0 (tick_task w t)
unfolding with_kernel Priorities Bitmap ready_bitmap ready_at facts stands_in open_tasks
ticks-task {w} s t low high = go (s.invariant.of_tasks.each t low high).time (ℕ_discrete left 1)
  where
    left : ℕ
    left = w.kernel.tasks.left ! t

    -- time is left of a wait only
    go : Time (queue (w.kernel.tasks.place ! t) (w.kernel.tasks.object ! t)) left → Dec (left ≡ 1) → Steady 0 (tick_task w t)
    go (inl idle) d = rw (tick-none w t idle.2) s
    go (inr (waits, inr e)) d = rw (tick-endless w t e) s
    go (inr (waits, inl range)) (yes e) = rw (tick-last w t e) (ended s t low high E_TMOUT Nothing (omega arith))
    go (inr (waits, inl range)) (no d) =
        rw (tick-more w t (λ (z : left ≡ 0). omega arith) d (λ (z : left ≡ endless). omega arith))
        (record { invariant = timed s.invariant t low high (pred left) waits (inl (omega arith)); priorities = s.priorities; bitmap = s.bitmap })

pub ticks : {w : World} → Steady 0 w → Keeps w Tick
unfolding perform tick
ticks {w} s = λ bytes fit e. numbers_keep (λ n. Steady 0) tick_task tasks (λ t v low high r. ticks-task r t low high) w s
