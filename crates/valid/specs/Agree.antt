-- The statements and the tests of validity agree, clause by clause. Assumes nothing.
use Rattle.std.specs.Prelude.{ℕ, suc, ◌*◌, ◌-◌, ◌≤◌, ◌<◌, ◌≡◌, refl, ◌≢◌, Bool, ◌&&◌, List, [], ◌∷◌, length, drop, leb}
use Rattle.std.proofs.Common.{arith, ◌∙◌, sym, inl, inr, length-take, length-drop}
use Rattle.std.proofs.Math.Bool.{true, not}
use Rattle.std.proofs.Math.ListN.{get_or}
use Rattle.std.proofs.Math.Dec.{eqb}
use borrow.Author.Tests.{eqb-false, ne_eqb}
use Rattle.model.specs.Sizes.{tasks, priorities, mutexes, buffers, pools, blocks, message_bytes, region_bytes, block_bytes, pool_bytes, store_bytes, outbox_bytes, longest, endless}
use Rattle.model.specs.Lists.{◌!◌, up_to, count_from, all, member, occurrences, implies, padded, select}
use Rattle.model.specs.Facts.{absent, dormant, ready, locking, sending, receiving, getting, ceilinged}
use Rattle.model.specs.Priority.{effectives}
use Rattle.model.specs.Queue.{ready_bitmap}
use Rattle.model.specs.Kernel.{Kernel, facts, slot}
use Rattle.model.specs.World.{Lent}
use Rattle.model.specs.Message.{part, region}
use Rattle.model.specs.Act.{first_fits}
use Rattle.model.specs.Refusal.{above_ceiling, free_block, pool_sum, mutex_attributes, buffer_attributes, pool_attributes}
use Rattle.model.specs.Valid.{Each, task_lists, mutex_lists, buffer_lists, pool_lists, ByNumber, TaskLists, MutexLists, BufferLists, PoolLists, lists, Lengths, lengths, TaskRange, task_range, MutexRange, mutex_range, BufferRange, buffer_range, PoolRange, pool_range, BlockFlag, block_flag, Argument, argument, Wait, wait_fields, awaitable, Arrivals, arrivals, Priorities, current_priorities, Bitmap, right_bitmap, Ceiling, ceiling, Locking, locking_task, Getting, getting_task, Receiving, receiving_task, FirstSender, first_sender, Outbox, outbox_part, RegionLayout, region_layout, Valid, valid}
use Rattle.model.proofs.FlagLaws.{joined-every, flag-set}
use Rattle.message.proofs.Layouts.{layout-valid, valid-layout}
use Rattle.valid.specs.Tests.{Agrees, itself, fails, and-agrees, or-agrees, implies-agrees, and3, and4, and5, eq-agrees, ne-agrees, le-agrees, lt-agrees, within-agrees, each-agrees, each_within, to-agrees, entries-agree, same-agrees, none-agrees, zero-agrees}

-- ---- lists and lengths

-- every list of a kind, one after the other
abbrev EachList : ℕ → List (List ℕ) → Type 0
EachList n [] = Unit
EachList n (x ∷ xs) = ByNumber n x × EachList n xs

by_number : (n : ℕ) (x : List ℕ) → Agrees (eqb (length x) (suc n) && eqb (x ! 0) 0) (ByNumber n x)
by_number n x =
    let a = and-agrees _ _ (eq-agrees (length x) (suc n)) (eq-agrees (x ! 0) 0) in
    ((λ e. let (long, zero) = a.0 e in record { long = long; none_zero = zero }), (λ l. a.1 (l.long, l.none_zero)))

each-list : (n : ℕ) (xs : List (List ℕ)) → Agrees (lists n xs) (EachList n xs)
each-list n [] = ((λ e. tt), (λ e. refl))
each-list n (x ∷ xs) = and-agrees (eqb (length x) (suc n) && eqb (x ! 0) 0) (lists n xs) (by_number n x) (each-list n xs)

module _ (k : Kernel) where
  pub task-lists : Agrees (lists tasks (task_lists k)) (TaskLists k.tasks)
  task-lists =
      let a = each-list tasks (task_lists k) in (
        (λ e. let (p, (o, (g, (i, (b, (c, (l, u))))))) = a.0 e in record { place = p; object = o; argument = g; initial = i; base = b; current = c; left = l }),
        (λ x. a.1 (x.place, (x.object, (x.argument, (x.initial, (x.base, (x.current, (x.left, tt)))))))),
      )

  pub mutex-lists : Agrees (lists mutexes (mutex_lists k)) (MutexLists k.mutexes)
  mutex-lists =
      let a = each-list mutexes (mutex_lists k) in (
        (λ e. let (x, (t, (c, (h, u)))) = a.0 e in record { exists = x; attribute = t; ceiling = c; holder = h }),
        (λ x. a.1 (x.exists, (x.attribute, (x.ceiling, (x.holder, tt))))),
      )

  pub buffer-lists : Agrees (lists buffers (buffer_lists k)) (BufferLists k.buffers)
  buffer-lists =
      let a = each-list buffers (buffer_lists k) in (
        (λ e. let (x, (t, (b, (m, (d, u))))) = a.0 e in record { exists = x; attribute = t; bufsz = b; maxmsz = m; used = d }),
        (λ x. a.1 (x.exists, (x.attribute, (x.bufsz, (x.maxmsz, (x.used, tt)))))),
      )

  pub pool-lists : Agrees (lists pools (pool_lists k)) (PoolLists k.pools)
  pool-lists =
      let a = each-list pools (pool_lists k) in (
        (λ e. let (x, (t, (c, (z, u)))) = a.0 e in record { exists = x; attribute = t; count = c; size = z }),
        (λ x. a.1 (x.exists, (x.attribute, (x.count, (x.size, tt))))),
      )

pub lengths-agree : (x : Lent) → Agrees (lengths x) (Lengths x)
lengths-agree x =
    let a =
    and4 _ _ _ _ (eq-agrees (length x.kernel.arrivals) tasks) (eq-agrees (length x.kernel.pools.taken) (suc pools * suc blocks))
    (eq-agrees (length x.store) store_bytes) (eq-agrees (length x.outbox) outbox_bytes)
    in
    ((λ e. let (r, t, s, o) = a.0 e in record { arrivals = r; taken = t; store = s; outbox = o }), (λ l. a.1 (l.arrivals, l.taken, l.store, l.outbox)))

-- ---- ranges

module _ (k : Kernel) where
  pub task-agrees : (t : ℕ) → Agrees (task_range k t) (TaskRange k t)
  unfolding task_range TaskRange
  task-agrees t =
      or-agrees _ _
      (and3 _ _ _ (eq-agrees (k.tasks.place ! t) absent) (eq-agrees (k.tasks.initial ! t) 0) (eq-agrees (k.tasks.base ! t) 0))
      (and3 _ _ _ (within-agrees dormant getting (k.tasks.place ! t)) (within-agrees 1 priorities (k.tasks.initial ! t)) (within-agrees 1 priorities (k.tasks.base ! t)))

  pub mutex-agrees : (m : ℕ) → Agrees (mutex_range k m) (MutexRange k m)
  unfolding mutex_range MutexRange
  mutex-agrees m =
      let x = k.mutexes in
      or-agrees _ _
      (and4 _ _ _ _ (eq-agrees (x.exists ! m) 0) (eq-agrees (x.attribute ! m) 0) (eq-agrees (x.ceiling ! m) 0) (eq-agrees (x.holder ! m) 0))
      (and4 _ _ _ _ (eq-agrees (x.exists ! m) 1) (itself (member (x.attribute ! m) mutex_attributes))
      (or-agrees _ _ (and-agrees _ _ (eq-agrees (x.attribute ! m) ceilinged) (within-agrees 1 priorities (x.ceiling ! m)))
      (and-agrees _ _ (ne-agrees (x.attribute ! m) ceilinged) (eq-agrees (x.ceiling ! m) 0)))
      (or-agrees _ _ (eq-agrees (x.holder ! m) 0) (le-agrees ready (k.tasks.place ! (x.holder ! m)))))

  pub buffer-agrees : (b : ℕ) → Agrees (buffer_range k b) (BufferRange k b)
  unfolding buffer_range BufferRange
  buffer-agrees b =
      let x = k.buffers in
      or-agrees _ _
      (and5 _ _ _ _ _ (eq-agrees (x.exists ! b) 0) (eq-agrees (x.attribute ! b) 0) (eq-agrees (x.bufsz ! b) 0) (eq-agrees (x.maxmsz ! b) 0) (eq-agrees (x.used ! b) 0))
      (and5 _ _ _ _ _ (eq-agrees (x.exists ! b) 1) (itself (member (x.attribute ! b) buffer_attributes)) (le-agrees (x.bufsz ! b) region_bytes)
      (within-agrees 1 message_bytes (x.maxmsz ! b)) (le-agrees (x.used ! b) (x.bufsz ! b)))

  pub pool-agrees : (p : ℕ) → Agrees (pool_range k p) (PoolRange k p)
  unfolding pool_range PoolRange
  pool-agrees p =
      let x = k.pools in
      or-agrees _ _
      (and4 _ _ _ _ (eq-agrees (x.exists ! p) 0) (eq-agrees (x.attribute ! p) 0) (eq-agrees (x.count ! p) 0) (eq-agrees (x.size ! p) 0))
      (and4 _ _ _ _ (eq-agrees (x.exists ! p) 1) (itself (member (x.attribute ! p) pool_attributes)) (within-agrees 1 blocks (x.count ! p)) (within-agrees 1 block_bytes (x.size ! p)))

  pub flag-agrees : (p b : ℕ) → Agrees (block_flag k p b) (BlockFlag k p b)
  unfolding block_flag BlockFlag
  flag-agrees p b =
      or-agrees _ _ (eq-agrees (k.pools.taken ! slot p b) 0)
      (and-agrees _ _ (eq-agrees (k.pools.taken ! slot p b) 1) (within-agrees 1 (k.pools.count ! p) b))

  -- ---- waits

  pub argument-agrees : (t : ℕ) → Agrees (argument k t) (Argument k t)
  unfolding argument Argument
  argument-agrees t =
      or-agrees _ _
      (and-agrees _ _ (eq-agrees (k.tasks.place ! t) sending) (within-agrees 1 (k.buffers.maxmsz ! (k.tasks.object ! t)) (k.tasks.argument ! t)))
      (and-agrees _ _ (ne-agrees (k.tasks.place ! t) sending) (eq-agrees (k.tasks.argument ! t) 0))

  pub wait-agrees : (t : ℕ) → Agrees (wait_fields k t) (Wait k t)
  unfolding wait_fields Wait
  wait-agrees t =
      let x = k.tasks in
      or-agrees _ _
      (and3 _ _ _ (lt-agrees (x.place ! t) locking) (eq-agrees (x.object ! t) 0) (eq-agrees (x.left ! t) 0))
      (and3 _ _ _ (le-agrees locking (x.place ! t)) (eq-agrees (awaitable k (x.place ! t) ! (x.object ! t)) 1)
      (or-agrees _ _ (within-agrees 1 longest (x.left ! t)) (eq-agrees (x.left ! t) endless)))

  pub arrivals-agree : Agrees (arrivals k) (Arrivals k)
  unfolding arrivals Arrivals
  arrivals-agree =
      and3 _ _ _
      (each-agrees (λ t. implies (leb ready (k.tasks.place ! t)) (eqb (occurrences t k.arrivals) 1)) (λ t. (ready ≤ k.tasks.place ! t) → (occurrences t k.arrivals ≡ 1))
      (λ t. implies-agrees _ _ (le-agrees ready (k.tasks.place ! t)) (eq-agrees (occurrences t k.arrivals) 1)) tasks)
      (entries-agree (λ t. implies (not (eqb t 0)) (leb ready (k.tasks.place ! t))) (λ t. (t ≢ 0) → (ready ≤ k.tasks.place ! t))
      (λ t. implies-agrees _ _ (ne-agrees t 0) (le-agrees ready (k.tasks.place ! t))) (λ n. absurd (n refl)) k.arrivals)
      (same-agrees k.arrivals (padded tasks (select (λ t. not (eqb t 0)) k.arrivals)))

  -- ---- priorities, mutexes, pools and buffers

  pub priorities-agree : Agrees (current_priorities k) (Priorities k)
  unfolding current_priorities Priorities
  priorities-agree = same-agrees k.tasks.current (effectives (facts k))

  pub bitmap-agrees : Agrees (right_bitmap k) (Bitmap k)
  unfolding right_bitmap Bitmap
  bitmap-agrees = same-agrees k.bitmap (ready_bitmap (facts k) k.tasks.current ∷ [])

  pub ceiling-agrees : (t m : ℕ) → Agrees (ceiling k t m) (Ceiling k t m)
  unfolding ceiling Ceiling
  ceiling-agrees t m = fails (above_ceiling k (k.tasks.base ! t) t m)

  pub locking-agrees : (t : ℕ) → Agrees (locking_task k t) (Locking k t)
  unfolding locking_task Locking
  locking-agrees t =
      implies-agrees _ _ (eq-agrees (k.tasks.place ! t) locking)
      (and-agrees _ _ (ne-agrees (k.mutexes.holder ! (k.tasks.object ! t)) t) (ne-agrees (k.mutexes.holder ! (k.tasks.object ! t)) 0))

  pub receiving-agrees : (t : ℕ) → Agrees (receiving_task k t) (Receiving k t)
  unfolding receiving_task Receiving
  receiving-agrees t =
      implies-agrees _ _ (eq-agrees (k.tasks.place ! t) receiving)
      (and-agrees _ _ (eq-agrees (k.buffers.used ! (k.tasks.object ! t)) 0)
      (each-agrees (λ s. implies (eqb (k.tasks.place ! s) sending) (not (eqb (k.tasks.object ! s) (k.tasks.object ! t))))
      (λ s. (k.tasks.place ! s ≡ sending) → k.tasks.object ! s ≢ k.tasks.object ! t)
      (λ s. implies-agrees _ _ (eq-agrees (k.tasks.place ! s) sending) (ne-agrees (k.tasks.object ! s) (k.tasks.object ! t))) tasks))

  pub sender-agrees : (b : ℕ) → Agrees (first_sender k b) (FirstSender k b)
  unfolding first_sender FirstSender
  sender-agrees b = fails (first_fits k b)

  pub getting-agrees : (t : ℕ) → Agrees (getting_task k t) (Getting k t)
  unfolding getting_task Getting free_block
  getting-agrees t =
      implies-agrees _ _ (eq-agrees (k.tasks.place ! t) getting)
      (let n = none-agrees (λ b. eqb (k.pools.taken ! slot (k.tasks.object ! t) b) 0) (k.pools.count ! (k.tasks.object ! t)) in
      ((λ e i low high. eqb-false _ _ (n.0 e i low high)), (λ f. n.1 (λ i low high. ne_eqb _ _ (f i low high)))))

-- ---- the outbox

-- the part of a task has its bytes where the outbox has its length
part_length : (t : ℕ) (outbox : List ℕ) → length outbox ≡ outbox_bytes → 1 ≤ t → t ≤ tasks → length (part message_bytes t outbox) ≡ message_bytes
unfolding part
part_length t outbox n low high = rw (length-take, length-drop) (omega arith)

pub outbox-agrees : (k : Kernel) (outbox : List ℕ) → length outbox ≡ outbox_bytes → (t : ℕ) → 1 ≤ t → t ≤ tasks → Agrees (outbox_part k outbox t) (Outbox k outbox t)
unfolding outbox_part Outbox
outbox-agrees k outbox n t low high = rw e at (zero-agrees (drop (k.tasks.argument ! t) (part message_bytes t outbox)))
  where
    e : length (drop (k.tasks.argument ! t) (part message_bytes t outbox)) ≡ message_bytes - k.tasks.argument ! t
    e = rw (length-drop, part_length t outbox n low high)

-- ---- the store

-- a region has its bytes where the store has its length
region-length : (b : ℕ) (store : List ℕ) → length store ≡ store_bytes → 1 ≤ b → b ≤ buffers → length (region b store) ≡ region_bytes
unfolding region part
region-length b store n low high = rw (length-take, length-drop) (omega arith)

-- the bytes used are no more than a region has, and messages are short
used-in : (k : Kernel) (b : ℕ) → BufferRange k b → (k.buffers.used ! b ≤ region_bytes) × (k.buffers.maxmsz ! b ≤ message_bytes)
unfolding BufferRange
used-in k b (inl h) = (let e = h.4 in omega arith, let e = h.3 in omega arith)
used-in k b (inr h) = (let a = h.2 in let e = h.4 in omega arith, h.3.1)

pub layout-agrees : (k : Kernel) (store : List ℕ) → length store ≡ store_bytes → (b : ℕ) → 1 ≤ b → b ≤ buffers → BufferRange k b
    → Agrees (region_layout k store b) (RegionLayout k store b)
layout-agrees k store n b low high r =
    let u = used-in k b r in
    let l = region-length b store n low high in
    let short : k.buffers.maxmsz ! b < 256 = let m = u.1 in omega arith in (
      layout-valid (k.buffers.maxmsz ! b) short (k.buffers.used ! b) (region b store) l u.0,
      valid-layout (k.buffers.maxmsz ! b) short (k.buffers.used ! b) (region b store) l,
    )

-- ---- all clauses

-- the flags of all pools' blocks, those of pool 0 and of block 0 too
flags-agree : (k : Kernel) → Agrees (all (λ p. all (block_flag k p) (count_from 0 (suc blocks))) (count_from 0 (suc pools))) ((p b : ℕ) → p ≤ pools → b ≤ blocks → BlockFlag k p b)
flags-agree k =
    let a = to-agrees (λ p. all (block_flag k p) (count_from 0 (suc blocks))) (λ p. (b : ℕ) → b ≤ blocks → BlockFlag k p b) (λ p. to-agrees (block_flag k p) (BlockFlag k p) (flag-agrees k p) blocks) pools in
    ((λ e p b h l. a.0 e p h b l), (λ f. a.1 (λ p h b l. f p b h l)))

-- the clauses of `valid`, in its order
abbrev pub as_defined : Lent → List Bool
as_defined x =
    let k = x.kernel in
    lists tasks (task_lists k) ∷ lists mutexes (mutex_lists k) ∷ lists buffers (buffer_lists k) ∷ lists pools (pool_lists k)
    ∷ lengths x
    ∷ all (task_range k) (up_to tasks) ∷ all (mutex_range k) (up_to mutexes) ∷ all (buffer_range k) (up_to buffers) ∷ all (pool_range k) (up_to pools)
    ∷ all (λ p. all (block_flag k p) (count_from 0 (suc blocks))) (count_from 0 (suc pools))
    ∷ leb (pool_sum k) pool_bytes
    ∷ all (argument k) (up_to tasks) ∷ all (wait_fields k) (up_to tasks)
    ∷ arrivals k
    ∷ current_priorities k
    ∷ right_bitmap k
    ∷ all (λ t. all (ceiling k t) (up_to mutexes)) (up_to tasks) ∷ all (locking_task k) (up_to tasks)
    ∷ all (getting_task k) (up_to tasks) ∷ all (receiving_task k) (up_to tasks) ∷ all (first_sender k) (up_to buffers)
    ∷ all (region_layout k x.store) (up_to buffers) ∷ all (outbox_part k x.outbox) (up_to tasks)
    ∷ []

infixr 20 ◌also◌
◌also◌ : {a b : Bool} → a ≡ true → b ≡ true → a && b ≡ true
p also q = rw (p, q)

module _ (x : Lent) where
  abbrev k : Kernel
  k = x.kernel

  -- the areas are tested where they have their lengths, and a region where its buffer's numbers are in range
  regions-agree : Lengths x → Each buffers (BufferRange k) → Agrees (all (region_layout k x.store) (up_to buffers)) (Each buffers (RegionLayout k x.store))
  regions-agree n r =
      each_within (region_layout k x.store) (RegionLayout k x.store) buffers (λ b low high. layout-agrees k x.store n.store b low high (r b low high))

  parts-agree : Lengths x → Agrees (all (outbox_part k x.outbox) (up_to tasks)) (Each tasks (Outbox k x.outbox))
  parts-agree n = each_within (outbox_part k x.outbox) (Outbox k x.outbox) tasks (outbox-agrees k x.outbox n.outbox)

  -- The theorem: the test answers true exactly if every statement holds.
  pub valid-agrees : Agrees (valid x) (Valid x)
  unfolding valid
  valid-agrees =
      let of_tasks = task-lists k in
      let of_mutexes = mutex-lists k in
      let of_buffers = buffer-lists k in
      let of_pools = pool-lists k in
      let long = lengths-agree x in
      let task = each-agrees (task_range k) (TaskRange k) (task-agrees k) tasks in
      let mutex = each-agrees (mutex_range k) (MutexRange k) (mutex-agrees k) mutexes in
      let buffer = each-agrees (buffer_range k) (BufferRange k) (buffer-agrees k) buffers in
      let pool = each-agrees (pool_range k) (PoolRange k) (pool-agrees k) pools in
      let flags = flags-agree k in
      let total = le-agrees (pool_sum k) pool_bytes in
      let args = each-agrees (argument k) (Argument k) (argument-agrees k) tasks in
      let waits = each-agrees (wait_fields k) (Wait k) (wait-agrees k) tasks in
      let arrived = arrivals-agree k in
      let current = priorities-agree k in
      let bits = bitmap-agrees k in
      let ceilings = each-agrees (λ t. all (ceiling k t) (up_to mutexes)) (λ t. Each mutexes (Ceiling k t)) (λ t. each-agrees (ceiling k t) (Ceiling k t) (ceiling-agrees k t) mutexes) tasks in
      let locks = each-agrees (locking_task k) (Locking k) (locking-agrees k) tasks in
      let gets = each-agrees (getting_task k) (Getting k) (getting-agrees k) tasks in
      let receives = each-agrees (receiving_task k) (Receiving k) (receiving-agrees k) tasks in
      let sends = each-agrees (first_sender k) (FirstSender k) (sender-agrees k) buffers in (
        (λ e.
            let at : (i : ℕ) → get_or (as_defined x) i true ≡ true = λ i. flag-set (as_defined x) i (sym (joined-every (as_defined x)) ∙ e) in
            let n = long.0 (at 4) in
            let r = buffer.0 (at 7) in
            record {
              is_task_lists = of_tasks.0 (at 0);
              is_mutex_lists = of_mutexes.0 (at 1);
              is_buffer_lists = of_buffers.0 (at 2);
              is_pool_lists = of_pools.0 (at 3);
              is_lengths = n;
              is_task_range = task.0 (at 5);
              is_mutex_range = mutex.0 (at 6);
              is_buffer_range = r;
              is_pool_range = pool.0 (at 8);
              is_block_flag = flags.0 (at 9);
              is_pool_sum = total.0 (at 10);
              is_argument = args.0 (at 11);
              is_wait = waits.0 (at 12);
              is_arrivals = arrived.0 (at 13);
              is_priorities = current.0 (at 14);
              is_bitmap = bits.0 (at 15);
              is_ceiling = ceilings.0 (at 16);
              is_locking = locks.0 (at 17);
              is_getting = gets.0 (at 18);
              is_receiving = receives.0 (at 19);
              is_first_sender = sends.0 (at 20);
              is_layout = (regions-agree n r).0 (at 21);
              is_outbox = (parts-agree n).0 (at 22);
            }),
        (λ v.
            joined-every (as_defined x)
            ∙ (of_tasks.1 v.is_task_lists also of_mutexes.1 v.is_mutex_lists also of_buffers.1 v.is_buffer_lists also of_pools.1 v.is_pool_lists also long.1 v.is_lengths
            also task.1 v.is_task_range also mutex.1 v.is_mutex_range also buffer.1 v.is_buffer_range also pool.1 v.is_pool_range also flags.1 v.is_block_flag also total.1 v.is_pool_sum
            also args.1 v.is_argument also waits.1 v.is_wait also arrived.1 v.is_arrivals also current.1 v.is_priorities also bits.1 v.is_bitmap also ceilings.1 v.is_ceiling
            also locks.1 v.is_locking also gets.1 v.is_getting also receives.1 v.is_receiving also sends.1 v.is_first_sender
            also (regions-agree v.is_lengths v.is_buffer_range).1 v.is_layout also (parts-agree v.is_lengths).1 v.is_outbox also refl)),
      )
