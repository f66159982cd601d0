-- A millisecond passes: the ledger sees the waits that end.
use Rattle.model.proofs.Terms.{ℕ, ◌≤◌, ℕ_discrete, arith, ◌≡◌, refl, inl, inr, tasks, endless, ◌!◌, E_TMOUT, queue, facts, stands_in, Lent, World, Nothing, begun, with_kernel, tick_task, tick, perform, Ledger, answered_with}
use Rattle.model.specs.declared.call.Call.TheVariants.{Tick}
use Rattle.model.proofs.ByCase.{tick-none, tick-endless, tick-last, tick-more}
use Rattle.model.proofs.Folds.{numbers_keep}
use Rattle.invariant.specs.Rows.{open_tasks}
use Rattle.invariant.specs.Invariant.{Steady}
use Rattle.invariant.proofs.Moves.{Time}
use Rattle.preservation.proofs.Time.{ticks-task}
use Rattle.ledger.specs.Abstraction.{ledger_of}
use Rattle.ledger.proofs.Acts.{Follows, end-follows}
use Rattle.ledger.proofs.Enters.{Enters, answers}

tick-follows : (l : Ledger) {w : World} → Steady 0 w → (t : ℕ) → 1 ≤ t → t ≤ tasks → Follows l w → Follows l (tick_task w t)
unfolding ledger_of with_kernel facts stands_in open_tasks
tick-follows l {w} s t low high f = go (s.invariant.of_tasks.each t low high).time (ℕ_discrete left 1)
  where
    left : ℕ
    left = w.kernel.tasks.left ! t

    go : Time (queue (w.kernel.tasks.place ! t) (w.kernel.tasks.object ! t)) left → Dec (left ≡ 1) → Follows l (tick_task w t)
    go (inl idle) d = rw (tick-none w t idle.2) f
    go (inr (waits, inr e)) d = rw (tick-endless w t e) f
    go (inr (waits, inl range)) (yes e) = rw (tick-last w t e) (end-follows l s t low high (omega arith) E_TMOUT Nothing (λ q. refl) f)
    go (inr (waits, inl range)) (no d) = rw (tick-more w t (λ (z : left ≡ 0). omega arith) d (λ (z : left ≡ endless). omega arith)) f

pub ticks : {x : Lent} → Steady 0 (begun x) → Enters x Tick
unfolding perform tick answered_with
ticks {x} s bytes e =
    answers 0 Nothing _
    (numbers_keep (λ n w. Steady 0 w × Follows (ledger_of x.kernel) w) tick_task tasks
    (λ t w low high h. (ticks-task h.0 t low high, tick-follows (ledger_of x.kernel) h.0 t low high h.1)) (begun x) (s, refl)).1
