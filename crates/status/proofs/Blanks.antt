-- No row of a valid state is blank. Assumes nothing.
use Rattle.model.proofs.Terms.{ℕ, ◌≤◌, arith, ◌≡◌, ◌∙◌, subst, ◌≢◌, inl, inr, Bool, true, false, cond, map, length-map, eqb, ◌!◌, up_to, ready, slot, Lent, Valid, MutexRange, BufferRange, PoolRange}
use lib.ListN.{get_or-eq_default}
use lib.Dec.{lit≤}
use Rattle.model.specs.Facts.{dormant}
use Rattle.model.specs.World.{running}
use Rattle.model.proofs.ListLaws.{length-select, length-count_from}
use Rattle.pool_account.specs.Statements.{free}
use Rattle.status.specs.Rows.{task_state, task_row, mutex_row, buffer_row, pool_row}
use Rattle.status.specs.Blank.{ValidHasNoneBlank, largest_word}

-- one of two numbers, neither of which is the one
either_way : (b : Bool) {m n l : ℕ} → m ≢ l → n ≢ l → cond b m n ≢ l
either_way true p q = p
either_way false p q = q

small : (n : ℕ) → n ≤ 256 → n ≢ largest_word
small n h e = absurd (omega (arith, h, e))

module _ (x : Lent) (v : Valid x) where
  task : (t : ℕ) → (task_row x.kernel t).state ≢ largest_word
  unfolding task_row task_state
  task t =
      let place = x.kernel.tasks.place ! t in
      either_way (eqb place dormant) (small 16 (lit≤ tt)) (either_way (eqb place ready) (either_way (eqb (running x.kernel) t) (small 1 (lit≤ tt)) (small 2 (lit≤ tt))) (small 4 (lit≤ tt)))

  -- a holder has a place, and beyond the last task there is none
  no_place : x.kernel.tasks.place ! largest_word ≡ 0
  no_place = get_or-eq_default x.kernel.tasks.place 0 (rw v.is_task_lists.place.long (lit≤ tt))

  mutex : (m : ℕ) → MutexRange x.kernel m → (mutex_row x.kernel m).holder ≢ largest_word
  unfolding MutexRange mutex_row
  mutex m (inl absent) e = absurd (omega (arith, e, absent.3))
  mutex m (inr (there, kind, ceiling, inl free)) e = absurd (omega (arith, e, free))
  mutex m (inr (there, kind, ceiling, inr held)) e = absurd (omega (arith, subst (λ (h : ℕ). ready ≤ x.kernel.tasks.place ! h) e held, no_place))

  buffer : (b : ℕ) → BufferRange x.kernel b → (buffer_row x b).free ≢ largest_word
  unfolding BufferRange buffer_row
  buffer b (inl absent) e = absurd (omega (arith, e, absent.2))
  buffer b (inr there) e = absurd (omega (arith, e, there.2))

  few-free : (p : ℕ) → free x.kernel.pools p ≤ x.kernel.pools.count ! p
  few-free p =
      let flags = map (λ b. x.kernel.pools.taken ! slot p b) (up_to (x.kernel.pools.count ! p)) in
      subst (λ (n : ℕ). free x.kernel.pools p ≤ n) (length-map (up_to (x.kernel.pools.count ! p)) _ ∙ length-count_from 1 (x.kernel.pools.count ! p)) (length-select (eqb 0) flags)

  pool : (p : ℕ) → PoolRange x.kernel p → (pool_row x.kernel p).free ≢ largest_word
  unfolding PoolRange pool_row
  pool p (inl absent) e = absurd (omega (arith, e, few-free p, absent.2))
  pool p (inr there) e = absurd (omega (arith, e, few-free p, there.2.1))

pub valid-has-none-blank : ValidHasNoneBlank
valid-has-none-blank x v =
    record {
      task = λ t a b. task x v t;
      mutex = λ m a b. mutex x v m (v.is_mutex_range m a b);
      buffer = λ n a b. buffer x v n (v.is_buffer_range n a b);
      pool = λ p a b. pool x v p (v.is_pool_range p a b);
    }
