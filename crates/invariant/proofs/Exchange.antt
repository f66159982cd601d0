-- One row of a kind's lists is exchanged: it is the new row at its number, and every other row is as it was. Over any kind.
use Rattle.model.proofs.Terms.{ℕ, ◌≤◌, ◌<◌, ℕ_discrete, arith, ◌≡◌, ◌∙◌, sym, ap, subst, ◌≢◌, List, length, set, length-set, get_or-set_same, get_or-set_other, tasks, mutexes, buffers, pools, ◌!◌, Tasks, Mutexes, Buffers, Pools, Each, ByNumber, TaskLists, MutexLists, BufferLists, PoolLists}
use Rattle.model.proofs.ListLaws.{entry-inside}
use Rattle.invariant.specs.Rows.{TaskRow, MutexRow, BufferRow, PoolRow, task_rows, mutex_rows, buffer_rows, pool_rows, with_task_row, with_mutex_row, with_buffer_row, with_pool_row}

-- ---- any rows

pub record Exchanged {R : Type 0} (f g : ℕ → R) (n : ℕ) (r : R) : Type 0 where
  pub same : g n ≡ r
  pub other : (u : ℕ) → u ≢ n → g u ≡ f u

module _ {R : Type 0} {f g : ℕ → R} {n : ℕ} {r : R} (e : Exchanged f g n r) where
  -- what holds of the new row there, and elsewhere of the old ones
  pub at_row : (C : R → Type 0) (u : ℕ) → (u ≡ n → C r) → (u ≢ n → C (f u)) → C (g u)
  at_row C u here there = elim (ℕ_discrete u n) [ yes q ↦ rw (q, e.same) (here q) | no d ↦ rw (e.other u d) (there d) ]

  pub each_row : (last : ℕ) (C : ℕ → R → Type 0) → Each last (λ u. C u (f u)) → C n r → Each last (λ u. C u (g u))
  each_row last C h c u i j = at_row (C u) u (λ q. subst (λ (v : ℕ). C v r) (sym q) c) (λ d. h u i j)

-- ---- a list by number

module _ {last n : ℕ} {xs : List ℕ} (l : ByNumber last xs) where
  pub inside : n ≤ last → n < length xs
  inside h = omega (arith, l.long)

  -- an entry that is not zero is a number's
  pub numbers : xs ! n ≢ 0 → (1 ≤ n) × (n ≤ last)
  numbers d =
      let positive : n ≢ 0 = λ z. d (ap (λ (m : ℕ). xs ! m) z ∙ l.none_zero) in
      (omega arith, omega (arith, entry-inside xs n d, l.long))

  pub set-by-number : 1 ≤ n → (v : ℕ) → ByNumber last (set xs n v)
  set-by-number low v = record { long = length-set xs n v ∙ l.long; none_zero = get_or-set_other xs n 0 v 0 (λ (z : 0 ≡ n). omega arith) ∙ l.none_zero }

  pub set_here : n ≤ last → (v : ℕ) → set xs n v ! n ≡ v
  set_here h v = get_or-set_same xs n v 0 (inside h)

  set_there : (u : ℕ) → u ≢ n → (v : ℕ) → set xs n v ! u ≡ xs ! u
  set_there u d v = get_or-set_other xs n u v 0 d

-- ---- the kinds: entry by entry

module _ (x : Tasks) (l : TaskLists x) (t : ℕ) (r : TaskRow) (c : ℕ) where
  pub task-row : t ≤ tasks → Exchanged (task_rows x) (task_rows (with_task_row x t r c)) t r
  task-row h =
      record {
        same = λ i. record { place = set_here l.place h r.place i; object = set_here l.object h r.object i; argument = set_here l.argument h r.argument i; initial = set_here l.initial h r.initial i; base = set_here l.base h r.base i; left = set_here l.left h r.left i };
        other = λ u d i. record { place = set_there l.place u d r.place i; object = set_there l.object u d r.object i; argument = set_there l.argument u d r.argument i; initial = set_there l.initial u d r.initial i; base = set_there l.base u d r.base i; left = set_there l.left u d r.left i };
      }

  pub task-lists : 1 ≤ t → TaskLists (with_task_row x t r c)
  task-lists h = record { place = set-by-number l.place h _; object = set-by-number l.object h _; argument = set-by-number l.argument h _; initial = set-by-number l.initial h _; base = set-by-number l.base h _; current = set-by-number l.current h _; left = set-by-number l.left h _ }

module _ (x : Mutexes) (l : MutexLists x) (m : ℕ) (r : MutexRow) where
  pub mutex-row : m ≤ mutexes → Exchanged (mutex_rows x) (mutex_rows (with_mutex_row x m r)) m r
  mutex-row h =
      record {
        same = λ i. record { exists = set_here l.exists h r.exists i; attribute = set_here l.attribute h r.attribute i; ceiling = set_here l.ceiling h r.ceiling i; holder = set_here l.holder h r.holder i };
        other = λ u d i. record { exists = set_there l.exists u d r.exists i; attribute = set_there l.attribute u d r.attribute i; ceiling = set_there l.ceiling u d r.ceiling i; holder = set_there l.holder u d r.holder i };
      }

  pub mutex-lists : 1 ≤ m → MutexLists (with_mutex_row x m r)
  mutex-lists h = record { exists = set-by-number l.exists h _; attribute = set-by-number l.attribute h _; ceiling = set-by-number l.ceiling h _; holder = set-by-number l.holder h _ }

module _ (x : Buffers) (l : BufferLists x) (b : ℕ) (r : BufferRow) where
  pub buffer-row : b ≤ buffers → Exchanged (buffer_rows x) (buffer_rows (with_buffer_row x b r)) b r
  buffer-row h =
      record {
        same = λ i. record { exists = set_here l.exists h r.exists i; attribute = set_here l.attribute h r.attribute i; bufsz = set_here l.bufsz h r.bufsz i; maxmsz = set_here l.maxmsz h r.maxmsz i; used = set_here l.used h r.used i };
        other = λ u d i. record { exists = set_there l.exists u d r.exists i; attribute = set_there l.attribute u d r.attribute i; bufsz = set_there l.bufsz u d r.bufsz i; maxmsz = set_there l.maxmsz u d r.maxmsz i; used = set_there l.used u d r.used i };
      }

  pub buffer-lists : 1 ≤ b → BufferLists (with_buffer_row x b r)
  buffer-lists h = record { exists = set-by-number l.exists h _; attribute = set-by-number l.attribute h _; bufsz = set-by-number l.bufsz h _; maxmsz = set-by-number l.maxmsz h _; used = set-by-number l.used h _ }

module _ (x : Pools) (l : PoolLists x) (p : ℕ) (r : PoolRow) (taken : List ℕ) where
  pub pool-row : p ≤ pools → Exchanged (pool_rows x) (pool_rows (with_pool_row x p r taken)) p r
  pool-row h =
      record {
        same = λ i. record { exists = set_here l.exists h r.exists i; attribute = set_here l.attribute h r.attribute i; count = set_here l.count h r.count i; size = set_here l.size h r.size i };
        other = λ u d i. record { exists = set_there l.exists u d r.exists i; attribute = set_there l.attribute u d r.attribute i; count = set_there l.count u d r.count i; size = set_there l.size u d r.size i };
      }

  pub pool-lists : 1 ≤ p → PoolLists (with_pool_row x p r taken)
  pool-lists h = record { exists = set-by-number l.exists h _; attribute = set-by-number l.attribute h _; count = set-by-number l.count h _; size = set-by-number l.size h _ }
