-- The kernel's state as a record of lists; document 01 calls the kernel the bench. Lists are indexed by an object's number; entry 0
-- stands for none and is zero; the arrivals and the word of bits have no such entry. In the definitions the records are built by the functions of this file alone.
use Rattle.std.specs.Prelude.{ℕ, suc, ◌+◌, ◌*◌, ◌^◌, Bool, ◌&&◌, not, List, [], ◌∷◌, ◌++◌, length, drop, set, eqb}
use Rattle.model.specs.Sizes.{tasks, mutexes, buffers, pools, blocks}
use Rattle.model.specs.Lists.{◌!◌, padded, select, within, zeros}
use Rattle.model.specs.Facts.{Facts, Queue, ready}

pub record Tasks : Type 0 where
  -- where the task stands
  pub place : List ℕ
  -- the number of the object waited for
  pub object : List ℕ
  -- of the wait: a sender's message length
  pub argument : List ℕ
  -- initial priority
  pub initial : List ℕ
  -- base priority
  pub base : List ℕ
  -- current priority
  pub current : List ℕ
  -- milliseconds left of a wait, `endless`, 0 for no wait
  pub left : List ℕ

pub record Mutexes : Type 0 where
  -- 1 if the mutex exists, else 0
  pub exists : List ℕ
  -- 0 to 3
  pub attribute : List ℕ
  -- 0 for attributes 0 to 2
  pub ceiling : List ℕ
  -- the task that holds it, 0 for none
  pub holder : List ℕ

pub record Buffers : Type 0 where
  pub exists : List ℕ
  -- 0 or 1
  pub attribute : List ℕ
  pub bufsz : List ℕ
  pub maxmsz : List ℕ
  -- bytes of the region in use
  pub used : List ℕ

pub record Pools : Type 0 where
  pub exists : List ℕ
  pub attribute : List ℕ
  -- how many blocks
  pub count : List ℕ
  -- bytes of a block
  pub size : List ℕ
  -- by pool, then block: 1 if the block is handed out
  pub taken : List ℕ

-- Arrivals: the started tasks, each once, the longest-standing first; then zeros. A task stands in one queue at a time, so one
-- order serves all queues, and no counter of arrivals can run out.
pub record Kernel : Type 0 where
  pub tasks : Tasks
  pub arrivals : List ℕ
  -- one word: bit p - 1 is set if a task is ready at current priority p
  pub bitmap : List ℕ
  pub mutexes : Mutexes
  pub buffers : Buffers
  pub pools : Pools

-- a part of the kernel exchanged
unfoldable pub with_tasks : Kernel → Tasks → Kernel
with_tasks k x = record { tasks = x; arrivals = k.arrivals; bitmap = k.bitmap; mutexes = k.mutexes; buffers = k.buffers; pools = k.pools }

unfoldable pub with_arrivals : Kernel → List ℕ → Kernel
with_arrivals k x = record { tasks = k.tasks; arrivals = x; bitmap = k.bitmap; mutexes = k.mutexes; buffers = k.buffers; pools = k.pools }

abbrev pub with_bitmap : Kernel → ℕ → Kernel
with_bitmap k x = record { tasks = k.tasks; arrivals = k.arrivals; bitmap = x ∷ []; mutexes = k.mutexes; buffers = k.buffers; pools = k.pools }

unfoldable pub with_mutexes : Kernel → Mutexes → Kernel
with_mutexes k x = record { tasks = k.tasks; arrivals = k.arrivals; bitmap = k.bitmap; mutexes = x; buffers = k.buffers; pools = k.pools }

unfoldable pub with_buffers : Kernel → Buffers → Kernel
with_buffers k x = record { tasks = k.tasks; arrivals = k.arrivals; bitmap = k.bitmap; mutexes = k.mutexes; buffers = x; pools = k.pools }

unfoldable pub with_pools : Kernel → Pools → Kernel
with_pools k x = record { tasks = k.tasks; arrivals = k.arrivals; bitmap = k.bitmap; mutexes = k.mutexes; buffers = k.buffers; pools = x }

-- one entry of a list of tasks exchanged
unfoldable pub with_place : Kernel → ℕ → ℕ → Kernel
unfolding with_tasks
with_place k n v = let x = k.tasks in with_tasks k (record { place = set x.place n v; object = x.object; argument = x.argument; initial = x.initial; base = x.base; current = x.current; left = x.left })

unfoldable pub with_object : Kernel → ℕ → ℕ → Kernel
unfolding with_tasks
with_object k n v = let x = k.tasks in with_tasks k (record { place = x.place; object = set x.object n v; argument = x.argument; initial = x.initial; base = x.base; current = x.current; left = x.left })

unfoldable pub with_argument : Kernel → ℕ → ℕ → Kernel
unfolding with_tasks
with_argument k n v = let x = k.tasks in with_tasks k (record { place = x.place; object = x.object; argument = set x.argument n v; initial = x.initial; base = x.base; current = x.current; left = x.left })

unfoldable pub with_initial : Kernel → ℕ → ℕ → Kernel
unfolding with_tasks
with_initial k n v = let x = k.tasks in with_tasks k (record { place = x.place; object = x.object; argument = x.argument; initial = set x.initial n v; base = x.base; current = x.current; left = x.left })

unfoldable pub with_base : Kernel → ℕ → ℕ → Kernel
unfolding with_tasks
with_base k n v = let x = k.tasks in with_tasks k (record { place = x.place; object = x.object; argument = x.argument; initial = x.initial; base = set x.base n v; current = x.current; left = x.left })

unfoldable pub with_current : Kernel → ℕ → ℕ → Kernel
unfolding with_tasks
with_current k n v = let x = k.tasks in with_tasks k (record { place = x.place; object = x.object; argument = x.argument; initial = x.initial; base = x.base; current = set x.current n v; left = x.left })

unfoldable pub with_left : Kernel → ℕ → ℕ → Kernel
unfolding with_tasks
with_left k n v = let x = k.tasks in with_tasks k (record { place = x.place; object = x.object; argument = x.argument; initial = x.initial; base = x.base; current = x.current; left = set x.left n v })

-- one entry of a list of mutexes exchanged
unfoldable pub with_mutex_exists : Kernel → ℕ → ℕ → Kernel
unfolding with_mutexes
with_mutex_exists k n v = let x = k.mutexes in with_mutexes k (record { exists = set x.exists n v; attribute = x.attribute; ceiling = x.ceiling; holder = x.holder })

unfoldable pub with_mutex_attribute : Kernel → ℕ → ℕ → Kernel
unfolding with_mutexes
with_mutex_attribute k n v = let x = k.mutexes in with_mutexes k (record { exists = x.exists; attribute = set x.attribute n v; ceiling = x.ceiling; holder = x.holder })

unfoldable pub with_ceiling : Kernel → ℕ → ℕ → Kernel
unfolding with_mutexes
with_ceiling k n v = let x = k.mutexes in with_mutexes k (record { exists = x.exists; attribute = x.attribute; ceiling = set x.ceiling n v; holder = x.holder })

unfoldable pub with_holder : Kernel → ℕ → ℕ → Kernel
unfolding with_mutexes
with_holder k n v = let x = k.mutexes in with_mutexes k (record { exists = x.exists; attribute = x.attribute; ceiling = x.ceiling; holder = set x.holder n v })

-- one entry of a list of buffers exchanged
unfoldable pub with_buffer_exists : Kernel → ℕ → ℕ → Kernel
unfolding with_buffers
with_buffer_exists k n v = let x = k.buffers in with_buffers k (record { exists = set x.exists n v; attribute = x.attribute; bufsz = x.bufsz; maxmsz = x.maxmsz; used = x.used })

unfoldable pub with_buffer_attribute : Kernel → ℕ → ℕ → Kernel
unfolding with_buffers
with_buffer_attribute k n v = let x = k.buffers in with_buffers k (record { exists = x.exists; attribute = set x.attribute n v; bufsz = x.bufsz; maxmsz = x.maxmsz; used = x.used })

unfoldable pub with_bufsz : Kernel → ℕ → ℕ → Kernel
unfolding with_buffers
with_bufsz k n v = let x = k.buffers in with_buffers k (record { exists = x.exists; attribute = x.attribute; bufsz = set x.bufsz n v; maxmsz = x.maxmsz; used = x.used })

unfoldable pub with_maxmsz : Kernel → ℕ → ℕ → Kernel
unfolding with_buffers
with_maxmsz k n v = let x = k.buffers in with_buffers k (record { exists = x.exists; attribute = x.attribute; bufsz = x.bufsz; maxmsz = set x.maxmsz n v; used = x.used })

unfoldable pub with_used : Kernel → ℕ → ℕ → Kernel
unfolding with_buffers
with_used k n v = let x = k.buffers in with_buffers k (record { exists = x.exists; attribute = x.attribute; bufsz = x.bufsz; maxmsz = x.maxmsz; used = set x.used n v })

-- one entry of a list of pools exchanged
unfoldable pub with_pool_exists : Kernel → ℕ → ℕ → Kernel
unfolding with_pools
with_pool_exists k n v = let x = k.pools in with_pools k (record { exists = set x.exists n v; attribute = x.attribute; count = x.count; size = x.size; taken = x.taken })

unfoldable pub with_pool_attribute : Kernel → ℕ → ℕ → Kernel
unfolding with_pools
with_pool_attribute k n v = let x = k.pools in with_pools k (record { exists = x.exists; attribute = set x.attribute n v; count = x.count; size = x.size; taken = x.taken })

unfoldable pub with_count : Kernel → ℕ → ℕ → Kernel
unfolding with_pools
with_count k n v = let x = k.pools in with_pools k (record { exists = x.exists; attribute = x.attribute; count = set x.count n v; size = x.size; taken = x.taken })

unfoldable pub with_size : Kernel → ℕ → ℕ → Kernel
unfolding with_pools
with_size k n v = let x = k.pools in with_pools k (record { exists = x.exists; attribute = x.attribute; count = x.count; size = set x.size n v; taken = x.taken })

unfoldable pub with_taken : Kernel → ℕ → ℕ → Kernel
unfolding with_pools
with_taken k n v = let x = k.pools in with_pools k (record { exists = x.exists; attribute = x.attribute; count = x.count; size = x.size; taken = set x.taken n v })

-- all current priorities exchanged
unfoldable pub with_currents : Kernel → List ℕ → Kernel
unfolding with_tasks
with_currents k v = let x = k.tasks in with_tasks k (record { place = x.place; object = x.object; argument = x.argument; initial = x.initial; base = x.base; current = v; left = x.left })

-- where the flag of a pool's block stands; blocks are counted from 1
abbrev pub slot : ℕ → ℕ → ℕ
slot p b = p * suc blocks + b

-- "Fresh bench: task 1, base and initial priority 8, running; nothing else"
abbrev pub fresh_tasks : Tasks
fresh_tasks =
    let none = zeros (suc tasks) in
    record {
      place = set none 1 ready;
      object = none;
      argument = none;
      initial = set none 1 8;
      base = set none 1 8;
      current = set none 1 8;
      left = none;
    }

abbrev pub no_mutexes : Mutexes
no_mutexes = let none = zeros (suc mutexes) in record { exists = none; attribute = none; ceiling = none; holder = none }

abbrev pub no_buffers : Buffers
no_buffers = let none = zeros (suc buffers) in record { exists = none; attribute = none; bufsz = none; maxmsz = none; used = none }

abbrev pub no_pools : Pools
no_pools =
    let none = zeros (suc pools) in
    record { exists = none; attribute = none; count = none; size = none; taken = zeros (suc pools * suc blocks) }

unfoldable pub fresh : Kernel
fresh =
    record {
      tasks = fresh_tasks;
      arrivals = padded tasks (1 ∷ []);
      -- one task is ready, at priority 8
      bitmap = 2 ^ 7 ∷ [];
      mutexes = no_mutexes;
      buffers = no_buffers;
      pools = no_pools;
    }

-- Arrivals without a task, and with it last: "Joining puts a task last and takes it from where it stood." No number of
-- calls uses up this order.
unfoldable pub others : ℕ → List ℕ → List ℕ
others t ts = select (λ u. not (eqb u 0) && not (eqb u t)) ts

unfoldable pub departed : ℕ → List ℕ → List ℕ
departed t ts = padded (length ts) (others t ts)

unfoldable pub arrived : ℕ → List ℕ → List ℕ
arrived t ts = padded (length ts) (others t ts ++ t ∷ [])

-- whether a task stands in a queue, and a queue's tasks as they arrived
unfoldable pub stands_in : Kernel → Queue → ℕ → Bool
stands_in k q t = within 1 tasks t && eqb (k.tasks.place ! t) q.place && eqb (k.tasks.object ! t) q.object

-- A list by number with 0 for none, whatever the state has there: so the facts of a state that no kernel made are those of its objects.
abbrev pub numbered : List ℕ → List ℕ
numbered xs = 0 ∷ drop 1 xs

-- what priorities and queue orders are worked out from
unfoldable pub facts : Kernel → Facts
facts k =
    record {
      base = numbered k.tasks.base;
      place = numbered k.tasks.place;
      object = numbered k.tasks.object;
      mutex_attribute = numbered k.mutexes.attribute;
      ceiling = numbered k.mutexes.ceiling;
      holder = numbered k.mutexes.holder;
      buffer_attribute = numbered k.buffers.attribute;
      pool_attribute = numbered k.pools.attribute;
      arrivals = λ q. select (stands_in k q) k.arrivals;
    }

-- what has to unfold for the definitions of this file to compute
unfoldable pub compute_kernel : Unit {0}
unfolding with_tasks with_arrivals with_mutexes with_buffers with_pools with_place with_object with_argument with_initial with_base
    with_current with_left with_mutex_exists with_mutex_attribute with_ceiling with_holder with_buffer_exists with_buffer_attribute
    with_bufsz with_maxmsz with_used with_pool_exists with_pool_attribute with_count with_size with_taken with_currents fresh others
    departed arrived stands_in facts
compute_kernel = tt
