-- 01, "Sound", and what 02 adds to it: which lent states and areas are valid. Each clause stands twice, as a statement and as a test that computes; that they
-- agree is a theorem. No other state is worked on: the answer is -5.
use Rattle.std.specs.Prelude.{ℕ, zero, suc, ◌+◌, ◌*◌, ◌-◌, ◌≤◌, ◌<◌, ◌≡◌, ◌≢◌, ◌⊎◌, Bool, true, false, ◌&&◌, ◌||◌, not, cond, List, [], ◌∷◌, ◌++◌, map, length, get_or, take, drop, eqb, leb, ltb}
use Rattle.model.specs.Sizes.{tasks, priorities, mutexes, buffers, pools, blocks, message_bytes, region_bytes, block_bytes, pool_bytes, store_bytes, outbox_bytes, longest, endless}
use Rattle.model.specs.Lists.{joined, ◌!◌, count_from, up_to, zeros, padded, sum, select, all, member, occurrences, same, all_zero, implies, within}
use Rattle.model.specs.Facts.{absent, dormant, ready, locking, sending, receiving, getting, ceilinged}
use Rattle.model.specs.Priority.{effectives}
use Rattle.model.specs.Queue.{ready_bitmap}
use Rattle.model.specs.Kernel.{Kernel, Tasks, Mutexes, Buffers, Pools, facts, slot}
use Rattle.model.specs.World.{Lent}
use Rattle.model.specs.Message.{cost, packed, oldest_length, part, region}
use Rattle.model.specs.Act.{first_fits}
use Rattle.model.specs.Refusal.{above_ceiling, free_block, pool_sum, mutex_attributes, buffer_attributes, pool_attributes}

-- of the numbers 1 to n each
abbrev pub Each : ℕ → (ℕ → Type 0) → Type 0
Each n P = (i : ℕ) → 1 ≤ i → i ≤ n → P i

-- ---- the lists' lengths, and entry 0 of each list

abbrev pub task_lists : Kernel → List (List ℕ)
task_lists k =
    let x = k.tasks in
    x.place ∷ x.object ∷ x.argument ∷ x.initial ∷ x.base ∷ x.current ∷ x.left ∷ []

abbrev pub mutex_lists : Kernel → List (List ℕ)
mutex_lists k = let x = k.mutexes in x.exists ∷ x.attribute ∷ x.ceiling ∷ x.holder ∷ []

abbrev pub buffer_lists : Kernel → List (List ℕ)
buffer_lists k = let x = k.buffers in x.exists ∷ x.attribute ∷ x.bufsz ∷ x.maxmsz ∷ x.used ∷ []

abbrev pub pool_lists : Kernel → List (List ℕ)
pool_lists k = let x = k.pools in x.exists ∷ x.attribute ∷ x.count ∷ x.size ∷ []

-- a list by number has an entry for each number, and one for none, which is zero
pub record ByNumber (last : ℕ) (xs : List ℕ) : Type 0 where
  pub long : length xs ≡ suc last
  pub none_zero : xs ! 0 ≡ 0

pub record TaskLists (x : Tasks) : Type 0 where
  pub place : ByNumber tasks x.place
  pub object : ByNumber tasks x.object
  pub argument : ByNumber tasks x.argument
  pub initial : ByNumber tasks x.initial
  pub base : ByNumber tasks x.base
  pub current : ByNumber tasks x.current
  pub left : ByNumber tasks x.left

pub record MutexLists (x : Mutexes) : Type 0 where
  pub exists : ByNumber mutexes x.exists
  pub attribute : ByNumber mutexes x.attribute
  pub ceiling : ByNumber mutexes x.ceiling
  pub holder : ByNumber mutexes x.holder

pub record BufferLists (x : Buffers) : Type 0 where
  pub exists : ByNumber buffers x.exists
  pub attribute : ByNumber buffers x.attribute
  pub bufsz : ByNumber buffers x.bufsz
  pub maxmsz : ByNumber buffers x.maxmsz
  pub used : ByNumber buffers x.used

pub record PoolLists (x : Pools) : Type 0 where
  pub exists : ByNumber pools x.exists
  pub attribute : ByNumber pools x.attribute
  pub count : ByNumber pools x.count
  pub size : ByNumber pools x.size

abbrev pub lists : ℕ → List (List ℕ) → Bool
lists n = all (λ x. eqb (length x) (suc n) && eqb (x ! 0) 0)

-- the areas, each "exactly" `store_bytes` or `outbox_bytes` long, and the lists that have no such entry; the bitmap's length is in its own clause
pub record Lengths (x : Lent) : Type 0 where
  pub arrivals : length x.kernel.arrivals ≡ tasks
  pub taken : length x.kernel.pools.taken ≡ suc pools * suc blocks
  pub store : length x.store ≡ store_bytes
  pub outbox : length x.outbox ≡ outbox_bytes

abbrev pub lengths : Lent → Bool
lengths x =
    eqb (length x.kernel.arrivals) tasks && eqb (length x.kernel.pools.taken) (suc pools * suc blocks)
    && eqb (length x.store) store_bytes && eqb (length x.outbox) outbox_bytes

-- ---- "numbers in range; unused entries as in the fresh bench"

abbrev pub From : ℕ → ℕ → ℕ → Type 0
From low high n = (low ≤ n) × (n ≤ high)

unfoldable pub TaskRange : Kernel → ℕ → Type 0
TaskRange k t =
    ((k.tasks.place ! t ≡ absent) × (k.tasks.initial ! t ≡ 0) × (k.tasks.base ! t ≡ 0))
    ⊎ (From dormant getting (k.tasks.place ! t) × From 1 priorities (k.tasks.initial ! t) × From 1 priorities (k.tasks.base ! t))

unfoldable pub task_range : Kernel → ℕ → Bool
task_range k t =
    (eqb (k.tasks.place ! t) absent && eqb (k.tasks.initial ! t) 0 && eqb (k.tasks.base ! t) 0)
    || (within dormant getting (k.tasks.place ! t) && within 1 priorities (k.tasks.initial ! t) && within 1 priorities (k.tasks.base ! t))

-- a ceiling is 0 for attributes 0 to 2; "dormant ones hold no mutex"
unfoldable pub MutexRange : Kernel → ℕ → Type 0
MutexRange k m =
    let x = k.mutexes in
    ((x.exists ! m ≡ 0) × (x.attribute ! m ≡ 0) × (x.ceiling ! m ≡ 0) × (x.holder ! m ≡ 0))
    ⊎ ((x.exists ! m ≡ 1) × (member (x.attribute ! m) mutex_attributes ≡ true)
    × (((x.attribute ! m ≡ ceilinged) × From 1 priorities (x.ceiling ! m)) ⊎ ((x.attribute ! m ≢ ceilinged) × (x.ceiling ! m ≡ 0)))
    × ((x.holder ! m ≡ 0) ⊎ (ready ≤ k.tasks.place ! (x.holder ! m))))

unfoldable pub mutex_range : Kernel → ℕ → Bool
mutex_range k m =
    let x = k.mutexes in
    (eqb (x.exists ! m) 0 && eqb (x.attribute ! m) 0 && eqb (x.ceiling ! m) 0 && eqb (x.holder ! m) 0)
    || (eqb (x.exists ! m) 1 && member (x.attribute ! m) mutex_attributes
    && ((eqb (x.attribute ! m) ceilinged && within 1 priorities (x.ceiling ! m)) || (not (eqb (x.attribute ! m) ceilinged) && eqb (x.ceiling ! m) 0))
    && (eqb (x.holder ! m) 0 || leb ready (k.tasks.place ! (x.holder ! m))))

unfoldable pub BufferRange : Kernel → ℕ → Type 0
BufferRange k b =
    let x = k.buffers in
    ((x.exists ! b ≡ 0) × (x.attribute ! b ≡ 0) × (x.bufsz ! b ≡ 0) × (x.maxmsz ! b ≡ 0) × (x.used ! b ≡ 0))
    ⊎ ((x.exists ! b ≡ 1) × (member (x.attribute ! b) buffer_attributes ≡ true) × (x.bufsz ! b ≤ region_bytes)
    × From 1 message_bytes (x.maxmsz ! b) × (x.used ! b ≤ x.bufsz ! b))

unfoldable pub buffer_range : Kernel → ℕ → Bool
buffer_range k b =
    let x = k.buffers in
    (eqb (x.exists ! b) 0 && eqb (x.attribute ! b) 0 && eqb (x.bufsz ! b) 0 && eqb (x.maxmsz ! b) 0 && eqb (x.used ! b) 0)
    || (eqb (x.exists ! b) 1 && member (x.attribute ! b) buffer_attributes && leb (x.bufsz ! b) region_bytes
    && within 1 message_bytes (x.maxmsz ! b) && leb (x.used ! b) (x.bufsz ! b))

unfoldable pub PoolRange : Kernel → ℕ → Type 0
PoolRange k p =
    let x = k.pools in
    ((x.exists ! p ≡ 0) × (x.attribute ! p ≡ 0) × (x.count ! p ≡ 0) × (x.size ! p ≡ 0))
    ⊎ ((x.exists ! p ≡ 1) × (member (x.attribute ! p) pool_attributes ≡ true) × From 1 blocks (x.count ! p) × From 1 block_bytes (x.size ! p))

unfoldable pub pool_range : Kernel → ℕ → Bool
pool_range k p =
    let x = k.pools in
    (eqb (x.exists ! p) 0 && eqb (x.attribute ! p) 0 && eqb (x.count ! p) 0 && eqb (x.size ! p) 0)
    || (eqb (x.exists ! p) 1 && member (x.attribute ! p) pool_attributes && within 1 blocks (x.count ! p) && within 1 block_bytes (x.size ! p))

-- a flag is 0, or it is 1 and its block is one of the pool's; of pool 0 and of block 0 there is none
unfoldable pub BlockFlag : Kernel → ℕ → ℕ → Type 0
BlockFlag k p b =
    (k.pools.taken ! slot p b ≡ 0) ⊎ ((k.pools.taken ! slot p b ≡ 1) × From 1 (k.pools.count ! p) b)

unfoldable pub block_flag : Kernel → ℕ → ℕ → Bool
block_flag k p b =
    eqb (k.pools.taken ! slot p b) 0 || (eqb (k.pools.taken ! slot p b) 1 && within 1 (k.pools.count ! p) b)

-- ---- "each task in one line or dormant [..] no two in a line having joined at once"

-- the entries that are 1 for the objects that a task at this place may wait for
unfoldable pub awaitable : Kernel → ℕ → List ℕ
awaitable k place =
    cond (eqb place locking) k.mutexes.exists
    (cond (eqb place getting) k.pools.exists k.buffers.exists)

-- a sender's wait has the length of its message, no other wait an argument
unfoldable pub Argument : Kernel → ℕ → Type 0
Argument k t =
    ((k.tasks.place ! t ≡ sending) × From 1 (k.buffers.maxmsz ! (k.tasks.object ! t)) (k.tasks.argument ! t))
    ⊎ ((k.tasks.place ! t ≢ sending) × (k.tasks.argument ! t ≡ 0))

unfoldable pub argument : Kernel → ℕ → Bool
argument k t =
    (eqb (k.tasks.place ! t) sending && within 1 (k.buffers.maxmsz ! (k.tasks.object ! t)) (k.tasks.argument ! t))
    || (not (eqb (k.tasks.place ! t) sending) && eqb (k.tasks.argument ! t) 0)

-- "waits with 1 or more ms left or endless"; a wait is for an object that exists; without a wait its fields are 0
unfoldable pub Wait : Kernel → ℕ → Type 0
Wait k t =
    let x = k.tasks in
    ((x.place ! t < locking) × (x.object ! t ≡ 0) × (x.left ! t ≡ 0))
    ⊎ ((locking ≤ x.place ! t) × (awaitable k (x.place ! t) ! (x.object ! t) ≡ 1)
    × (From 1 longest (x.left ! t) ⊎ (x.left ! t ≡ endless)))

unfoldable pub wait_fields : Kernel → ℕ → Bool
wait_fields k t =
    let x = k.tasks in
    (ltb (x.place ! t) locking && eqb (x.object ! t) 0 && eqb (x.left ! t) 0)
    || (leb locking (x.place ! t) && eqb (awaitable k (x.place ! t) ! (x.object ! t)) 1
    && (within 1 longest (x.left ! t) || eqb (x.left ! t) endless))

-- arrivals list each started task once, nothing else, and then zeros
unfoldable pub Arrivals : Kernel → Type 0
Arrivals k =
    Each tasks (λ t. (ready ≤ k.tasks.place ! t) → (occurrences t k.arrivals ≡ 1))
    × ((i : ℕ) → (k.arrivals ! i ≢ 0) → (ready ≤ k.tasks.place ! (k.arrivals ! i)))
    × (k.arrivals ≡ padded tasks (select (λ t. not (eqb t 0)) k.arrivals))

unfoldable pub arrivals : Kernel → Bool
arrivals k =
    all (λ t. implies (leb ready (k.tasks.place ! t)) (eqb (occurrences t k.arrivals) 1)) (up_to tasks)
    && all (λ t. implies (not (eqb t 0)) (leb ready (k.tasks.place ! t))) k.arrivals
    && same k.arrivals (padded tasks (select (λ t. not (eqb t 0)) k.arrivals))

-- ---- priorities and mutexes

-- "priorities and lines as worked out afresh": queues are always worked out
unfoldable pub Priorities : Kernel → Type 0
Priorities k = k.tasks.current ≡ effectives (facts k)

unfoldable pub current_priorities : Kernel → Bool
current_priorities k = same k.tasks.current (effectives (facts k))

-- 02, request Three: "the bits as worked out afresh"
unfoldable pub Bitmap : Kernel → Type 0
Bitmap k = k.bitmap ≡ ready_bitmap (facts k) k.tasks.current ∷ []

unfoldable pub right_bitmap : Kernel → Bool
right_bitmap k = same k.bitmap (ready_bitmap (facts k) k.tasks.current ∷ [])

-- "no base above a held or awaited ceiling"
unfoldable pub Ceiling : Kernel → ℕ → ℕ → Type 0
Ceiling k t m = above_ceiling k (k.tasks.base ! t) t m ≡ false

unfoldable pub ceiling : Kernel → ℕ → ℕ → Bool
ceiling k t m = not (above_ceiling k (k.tasks.base ! t) t m)

-- "no task waiting for a mutex it holds"; "no waiters at a free mutex"
unfoldable pub Locking : Kernel → ℕ → Type 0
Locking k t =
    (k.tasks.place ! t ≡ locking)
    → (k.mutexes.holder ! (k.tasks.object ! t) ≢ t) × (k.mutexes.holder ! (k.tasks.object ! t) ≢ 0)

unfoldable pub locking_task : Kernel → ℕ → Bool
locking_task k t =
    implies (eqb (k.tasks.place ! t) locking)
    (not (eqb (k.mutexes.holder ! (k.tasks.object ! t)) t) && not (eqb (k.mutexes.holder ! (k.tasks.object ! t)) 0))

-- ---- buffers and pools

-- "no waiters at [..] a pool with free blocks"
unfoldable pub Getting : Kernel → ℕ → Type 0
Getting k t =
    (k.tasks.place ! t ≡ getting)
    → Each (k.pools.count ! (k.tasks.object ! t)) (λ b. k.pools.taken ! slot (k.tasks.object ! t) b ≢ 0)

unfoldable pub getting_task : Kernel → ℕ → Bool
getting_task k t = implies (eqb (k.tasks.place ! t) getting) (eqb (free_block k (k.tasks.object ! t)) 0)

-- "no receivers beside messages or senders"
unfoldable pub Receiving : Kernel → ℕ → Type 0
Receiving k t =
    (k.tasks.place ! t ≡ receiving)
    → (k.buffers.used ! (k.tasks.object ! t) ≡ 0)
    × Each tasks (λ s. (k.tasks.place ! s ≡ sending) → k.tasks.object ! s ≢ k.tasks.object ! t)

unfoldable pub receiving_task : Kernel → ℕ → Bool
receiving_task k t =
    implies (eqb (k.tasks.place ! t) receiving)
    (eqb (k.buffers.used ! (k.tasks.object ! t)) 0
    && all (λ s. implies (eqb (k.tasks.place ! s) sending) (not (eqb (k.tasks.object ! s) (k.tasks.object ! t)))) (up_to tasks))

-- "no first sender that fits"
unfoldable pub FirstSender : Kernel → ℕ → Type 0
FirstSender k b = first_fits k b ≡ false

unfoldable pub first_sender : Kernel → ℕ → Bool
first_sender k b = not (first_fits k b)

-- ---- "areas laid out as above"

-- a region is the packed messages, each of 1 to maxmsz bytes, that cost the bytes used; then zeros
pub record Layout (maxmsz used : ℕ) (r : List ℕ) : Type 0 where
  pub messages : List (List ℕ)
  pub each : (i : ℕ) → i < length messages → From 1 maxmsz (length (get_or messages i []))
  pub costs : sum (map (λ m. cost (length m)) messages) ≡ used
  pub bytes : r ≡ joined (map packed messages) ++ zeros (region_bytes - used)

-- the same as a test: message after message, at most n of them
abbrev pub layout : ℕ → ℕ → ℕ → List ℕ → Bool
layout zero maxmsz used r = eqb used 0 && all_zero r
layout (suc n) maxmsz used r =
    let l = oldest_length r in
    elim (eqb used 0) [
      | true ↦ all_zero r
      | false ↦
          within 1 maxmsz l && leb (cost l) used && all_zero (drop (4 + l) (take (cost l) r))
          && layout n maxmsz (used - cost l) (drop (cost l) r)
    ]

-- of a buffer: its region, by what it says of its messages
abbrev pub RegionLayout : Kernel → List ℕ → ℕ → Type 0
RegionLayout k store b = Layout (k.buffers.maxmsz ! b) (k.buffers.used ! b) (region b store)

abbrev pub region_layout : Kernel → List ℕ → ℕ → Bool
region_layout k store b = layout region_bytes (k.buffers.maxmsz ! b) (k.buffers.used ! b) (region b store)

-- a sender's message stands first in its part of the outbox; a task that sends nothing has a message of no bytes
unfoldable pub Outbox : Kernel → List ℕ → ℕ → Type 0
Outbox k outbox t =
    drop (k.tasks.argument ! t) (part message_bytes t outbox) ≡ zeros (message_bytes - k.tasks.argument ! t)

unfoldable pub outbox_part : Kernel → List ℕ → ℕ → Bool
outbox_part k outbox t = all_zero (drop (k.tasks.argument ! t) (part message_bytes t outbox))

-- ---- all clauses

pub record Valid (x : Lent) : Type 0 where
  pub is_task_lists : TaskLists x.kernel.tasks
  pub is_mutex_lists : MutexLists x.kernel.mutexes
  pub is_buffer_lists : BufferLists x.kernel.buffers
  pub is_pool_lists : PoolLists x.kernel.pools
  pub is_lengths : Lengths x
  pub is_task_range : Each tasks (TaskRange x.kernel)
  pub is_mutex_range : Each mutexes (MutexRange x.kernel)
  pub is_buffer_range : Each buffers (BufferRange x.kernel)
  pub is_pool_range : Each pools (PoolRange x.kernel)
  pub is_block_flag : (p b : ℕ) → p ≤ pools → b ≤ blocks → BlockFlag x.kernel p b
  -- "counts times sizes of live pools sum to at most 4,096"
  pub is_pool_sum : pool_sum x.kernel ≤ pool_bytes
  pub is_argument : Each tasks (Argument x.kernel)
  pub is_wait : Each tasks (Wait x.kernel)
  pub is_arrivals : Arrivals x.kernel
  pub is_priorities : Priorities x.kernel
  pub is_bitmap : Bitmap x.kernel
  pub is_ceiling : Each tasks (λ t. Each mutexes (Ceiling x.kernel t))
  pub is_locking : Each tasks (Locking x.kernel)
  pub is_getting : Each tasks (Getting x.kernel)
  pub is_receiving : Each tasks (Receiving x.kernel)
  pub is_first_sender : Each buffers (FirstSender x.kernel)
  pub is_layout : Each buffers (RegionLayout x.kernel x.store)
  pub is_outbox : Each tasks (Outbox x.kernel x.outbox)

-- the same clauses as tests, in the same order
unfoldable pub valid : Lent → Bool
valid x =
    let k = x.kernel in
    lists tasks (task_lists k)
    && lists mutexes (mutex_lists k)
    && lists buffers (buffer_lists k)
    && lists pools (pool_lists k)
    && lengths x
    && all (task_range k) (up_to tasks)
    && all (mutex_range k) (up_to mutexes)
    && all (buffer_range k) (up_to buffers)
    && all (pool_range k) (up_to pools)
    && all (λ p. all (block_flag k p) (count_from 0 (suc blocks))) (count_from 0 (suc pools))
    && leb (pool_sum k) pool_bytes
    && all (argument k) (up_to tasks)
    && all (wait_fields k) (up_to tasks)
    && arrivals k
    && current_priorities k
    && right_bitmap k
    && all (λ t. all (ceiling k t) (up_to mutexes)) (up_to tasks)
    && all (locking_task k) (up_to tasks)
    && all (getting_task k) (up_to tasks)
    && all (receiving_task k) (up_to tasks)
    && all (first_sender k) (up_to buffers)
    && all (region_layout k x.store) (up_to buffers)
    && all (outbox_part k x.outbox) (up_to tasks)

-- what has to unfold for the definitions of this file to compute
unfoldable pub compute_valid : Unit {0}
unfolding task_range mutex_range buffer_range pool_range block_flag awaitable argument wait_fields arrivals current_priorities right_bitmap ceiling
    locking_task getting_task receiving_task first_sender outbox_part valid
compute_valid = tt
