-- What every step of a call keeps: all of `Valid` but three clauses. First senders are left out, since the drain serves them last in each call. So are current
-- priorities, since they are recomputed only at the end of an act that changes a base, a mutex or a wait for one, and the bits, which go with them and with who is
-- ready; `Steady` has both, and every act keeps it.
-- One task may be exiting (0 where none is): it has become dormant and still holds mutexes, whose ceilings need not bind its base, and gives them up one by one.
--
-- The clauses are grouped by the part of the kernel that they speak of, and ask of a task's row what its wait means there. So an act on one kind of object has
-- to show nothing of the others, and a kind that is added adds a part.
use Rattle.std.specs.Prelude.{◌*◌, ◌-◌, ◌≤◌, ◌<◌, ◌≡◌, ◌≢◌, ◌⊎◌}
use Rattle.model.proofs.Terms.{ℕ, suc, true, List, map, length, drop, tasks, priorities, mutexes, buffers, pools, blocks, message_bytes, region_bytes, block_bytes, pool_bytes, store_bytes, outbox_bytes, longest, endless, ◌!◌, up_to, zeros, sum, member, absent, dormant, ready, locking, sending, receiving, getting, ceilinged, Kernel, Tasks, Mutexes, Buffers, Pools, slot, World, part, region, mutex_attributes, buffer_attributes, pool_attributes, Each, From, TaskLists, MutexLists, BufferLists, PoolLists, Layout, Priorities, Bitmap}
use Rattle.queue.proofs.Listing.{Listing}
use Rattle.invariant.specs.Rows.{TaskRow, MutexRow, BufferRow, PoolRow, task_rows, mutex_rows, buffer_rows, pool_rows}

-- ---- tasks

-- a task that is not there, or one that is
abbrev pub Range : TaskRow → Type 0
Range r =
    ((r.place ≡ absent) × (r.initial ≡ 0) × (r.base ≡ 0))
    ⊎ (From dormant getting r.place × From 1 priorities r.initial × From 1 priorities r.base)

-- "waits with 1 or more ms left or endless"
abbrev pub Lasting : ℕ → Type 0
Lasting left = From 1 longest left ⊎ (left ≡ endless)

-- a task by itself, with its part of the outbox
pub record TaskKept (box : List ℕ) (r : TaskRow) : Type 0 where
  pub range : Range r
  pub time : ((r.place < locking) × (r.object ≡ 0) × (r.left ≡ 0)) ⊎ ((locking ≤ r.place) × Lasting r.left)
  -- who sends nothing has a message of no bytes
  pub silent : r.place ≢ sending → r.argument ≡ 0
  -- a sender's bytes stand first in its part, and zeros behind them
  pub boxed : drop r.argument box ≡ zeros (message_bytes - r.argument)

pub record TasksKept (x : Tasks) (arrivals outbox : List ℕ) : Type 0 where
  pub lists : TaskLists x
  pub listing : Listing x.place arrivals
  pub size : length outbox ≡ outbox_bytes
  pub each : Each tasks (λ t. TaskKept (part message_bytes t outbox) (task_rows x t))

-- ---- mutexes

-- a mutex that is not there, or one that is
abbrev pub MutexShape : MutexRow → Type 0
MutexShape m =
    ((m.exists ≡ 0) × (m.attribute ≡ 0) × (m.ceiling ≡ 0) × (m.holder ≡ 0))
    ⊎ ((m.exists ≡ 1) × (member m.attribute mutex_attributes ≡ true)
    × (((m.attribute ≡ ceilinged) × From 1 priorities m.ceiling) ⊎ ((m.attribute ≢ ceilinged) × (m.ceiling ≡ 0))))

-- "no base above a held or awaited ceiling"
abbrev pub Under : MutexRow → ℕ → Type 0
Under m base = m.attribute ≡ ceilinged → m.ceiling ≤ base

-- a task that holds a mutex, and one that waits for it
pub record Holding (m : MutexRow) (place base : ℕ) : Type 0 where
  pub started : ready ≤ place
  pub under : Under m base

pub record Locks (m : MutexRow) (t base : ℕ) : Type 0 where
  pub there : m.exists ≡ 1
  pub taken : m.holder ≢ 0
  pub other : m.holder ≢ t
  pub under : Under m base

-- whoever holds a mutex, unless it is exiting
abbrev pub HeldBy : ℕ → (ℕ → TaskRow) → MutexRow → Type 0
HeldBy exiting rows m = m.holder ≢ 0 → m.holder ≢ exiting → Holding m (rows m.holder).place (rows m.holder).base

pub record MutexesKept (exiting : ℕ) (rows : ℕ → TaskRow) (x : Mutexes) : Type 0 where
  pub lists : MutexLists x
  pub shape : Each mutexes (λ m. MutexShape (mutex_rows x m))
  pub held : Each mutexes (λ m. HeldBy exiting rows (mutex_rows x m))
  pub waits : Each tasks (λ t. (rows t).place ≡ locking → Locks (mutex_rows x (rows t).object) t (rows t).base)

-- ---- message buffers

abbrev pub BufferShape : BufferRow → Type 0
BufferShape b =
    ((b.exists ≡ 0) × (b.attribute ≡ 0) × (b.bufsz ≡ 0) × (b.maxmsz ≡ 0) × (b.used ≡ 0))
    ⊎ ((b.exists ≡ 1) × (member b.attribute buffer_attributes ≡ true) × (b.bufsz ≤ region_bytes)
    × From 1 message_bytes b.maxmsz × (b.used ≤ b.bufsz))

pub record Sends (b : BufferRow) (size : ℕ) : Type 0 where
  pub there : b.exists ≡ 1
  pub sized : From 1 b.maxmsz size

pub record Receives (b : BufferRow) : Type 0 where
  pub there : b.exists ≡ 1
  pub empty : b.used ≡ 0

-- "no receivers beside [..] senders"
abbrev pub Apart : TaskRow → TaskRow → Type 0
Apart r s = r.place ≡ receiving → s.place ≡ sending → s.object ≢ r.object

pub record BuffersKept (rows : ℕ → TaskRow) (x : Buffers) (store : List ℕ) : Type 0 where
  pub lists : BufferLists x
  pub size : length store ≡ store_bytes
  pub shape : Each buffers (λ b. BufferShape (buffer_rows x b))
  pub layout : Each buffers (λ b. Layout (x.maxmsz ! b) (x.used ! b) (region b store))
  pub sends : Each tasks (λ t. (rows t).place ≡ sending → Sends (buffer_rows x (rows t).object) (rows t).argument)
  pub receives : Each tasks (λ t. (rows t).place ≡ receiving → Receives (buffer_rows x (rows t).object))
  pub apart : Each tasks (λ t. Each tasks (λ s. Apart (rows t) (rows s)))

-- ---- fixed pools

abbrev pub PoolShape : PoolRow → Type 0
PoolShape p =
    ((p.exists ≡ 0) × (p.attribute ≡ 0) × (p.count ≡ 0) × (p.size ≡ 0))
    ⊎ ((p.exists ≡ 1) × (member p.attribute pool_attributes ≡ true) × From 1 blocks p.count × From 1 block_bytes p.size)

-- a task that waits for a block: none is free
pub record Gets (p : PoolRow) (taken : ℕ → ℕ) : Type 0 where
  pub there : p.exists ≡ 1
  pub none_free : Each p.count (λ b. taken b ≢ 0)

pub record PoolsKept (rows : ℕ → TaskRow) (x : Pools) : Type 0 where
  pub lists : PoolLists x
  pub size : length x.taken ≡ suc pools * suc blocks
  pub shape : Each pools (λ p. PoolShape (pool_rows x p))
  pub flags : (p b : ℕ) → p ≤ pools → b ≤ blocks → (x.taken ! slot p b ≡ 0) ⊎ ((x.taken ! slot p b ≡ 1) × From 1 (x.count ! p) b)
  pub room : sum (map (λ p. x.count ! p * x.size ! p) (up_to pools)) ≤ pool_bytes
  pub waits : Each tasks (λ t. (rows t).place ≡ getting → Gets (pool_rows x (rows t).object) (λ b. x.taken ! slot (rows t).object b))

-- ---- all parts

pub record Invariant (exiting : ℕ) (k : Kernel) (store outbox : List ℕ) : Type 0 where
  pub of_tasks : TasksKept k.tasks k.arrivals outbox
  pub of_mutexes : MutexesKept exiting (task_rows k.tasks) k.mutexes
  pub of_buffers : BuffersKept (task_rows k.tasks) k.buffers store
  pub of_pools : PoolsKept (task_rows k.tasks) k.pools

-- what holds of a world between two acts: the invariant, every current priority is the effective one, and the bits are right
pub record Steady (exiting : ℕ) (w : World) : Type 0 where
  pub invariant : Invariant exiting w.kernel w.store w.outbox
  pub priorities : Priorities w.kernel
  pub bitmap : Bitmap w.kernel
