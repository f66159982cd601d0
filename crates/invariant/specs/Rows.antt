-- The entries that a number has in the lists of its kind, as one row; and the lists with one row exchanged. An act changes one row of one kind,
-- so that what it keeps is said of that row and of those that look at it.
use Rattle.model.proofs.Terms.{ℕ, List, set, ◌!◌, Tasks, Mutexes, Buffers, Pools, with_tasks, with_arrivals, with_place, with_object, with_argument, with_initial, with_base, with_current, with_left, with_currents, with_kernel, with_store, with_outbox, with_ended, arrive, leave_kernel, leave, end_wait}

pub record TaskRow : Type 0 where
  pub place : ℕ
  pub object : ℕ
  pub argument : ℕ
  pub initial : ℕ
  pub base : ℕ
  pub left : ℕ

pub record MutexRow : Type 0 where
  pub exists : ℕ
  pub attribute : ℕ
  pub ceiling : ℕ
  pub holder : ℕ

pub record BufferRow : Type 0 where
  pub exists : ℕ
  pub attribute : ℕ
  pub bufsz : ℕ
  pub maxmsz : ℕ
  pub used : ℕ

pub record PoolRow : Type 0 where
  pub exists : ℕ
  pub attribute : ℕ
  pub count : ℕ
  pub size : ℕ

-- Each kind's rows by number. Of a task the current priority is left out: it is worked out afresh after an act, and the invariant does not look at it.
abbrev pub task_rows : Tasks → ℕ → TaskRow
task_rows x t =
    record { place = x.place ! t; object = x.object ! t; argument = x.argument ! t; initial = x.initial ! t; base = x.base ! t; left = x.left ! t }

abbrev pub mutex_rows : Mutexes → ℕ → MutexRow
mutex_rows x m = record { exists = x.exists ! m; attribute = x.attribute ! m; ceiling = x.ceiling ! m; holder = x.holder ! m }

abbrev pub buffer_rows : Buffers → ℕ → BufferRow
buffer_rows x b = record { exists = x.exists ! b; attribute = x.attribute ! b; bufsz = x.bufsz ! b; maxmsz = x.maxmsz ! b; used = x.used ! b }

abbrev pub pool_rows : Pools → ℕ → PoolRow
pool_rows x p = record { exists = x.exists ! p; attribute = x.attribute ! p; count = x.count ! p; size = x.size ! p }

-- One row exchanged; of a task with its current priority, of a pool with all flags.
abbrev pub with_task_row : Tasks → ℕ → TaskRow → ℕ → Tasks
with_task_row x t r c = record { place = set x.place t r.place; object = set x.object t r.object; argument = set x.argument t r.argument; initial = set x.initial t r.initial; base = set x.base t r.base; current = set x.current t c; left = set x.left t r.left }

abbrev pub with_mutex_row : Mutexes → ℕ → MutexRow → Mutexes
with_mutex_row x m r = record { exists = set x.exists m r.exists; attribute = set x.attribute m r.attribute; ceiling = set x.ceiling m r.ceiling; holder = set x.holder m r.holder }

abbrev pub with_buffer_row : Buffers → ℕ → BufferRow → Buffers
with_buffer_row x b r = record { exists = set x.exists b r.exists; attribute = set x.attribute b r.attribute; bufsz = set x.bufsz b r.bufsz; maxmsz = set x.maxmsz b r.maxmsz; used = set x.used b r.used }

abbrev pub with_pool_row : Pools → ℕ → PoolRow → List ℕ → Pools
with_pool_row x p r taken = record { exists = set x.exists p r.exists; attribute = set x.attribute p r.attribute; count = set x.count p r.count; size = set x.size p r.size; taken = taken }

-- What has to unfold to see which entries of a task an act exchanges; and, of a world, which parts.
unfoldable pub open_tasks : Unit {0}
unfolding with_tasks with_arrivals with_place with_object with_argument with_initial with_base with_current with_left with_currents
open_tasks = tt

unfoldable pub open_world : Unit {0}
unfolding with_kernel with_store with_outbox with_ended
open_world = tt

-- the end of a wait, but for recomputing
unfoldable pub open_end : Unit {0}
unfolding open_tasks open_world end_wait leave leave_kernel arrive
open_end = tt
