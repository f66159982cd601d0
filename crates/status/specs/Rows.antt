-- 02, request One: what the row of a task, a mutex, a buffer and a pool holds, by the object's number. Each is asked only of an object that exists.
use Rattle.std.specs.Prelude.{ℕ, suc, ◌-◌, ◌≤◌, ◌<◌, ◌≡◌, ◌⊎◌, Bool, true, ◌||◌, not, cond, List, length, ℤ, pos, eqb}
use Rattle.model.specs.Sizes.{longest, endless}
use Rattle.model.specs.Lists.{◌!◌}
use Rattle.model.specs.Code.{minus}
use Rattle.model.specs.Facts.{queue, dormant, ready, locking, sending, receiving, getting}
use Rattle.model.specs.Kernel.{Kernel}
use Rattle.model.specs.World.{Lent, running, queue_front}
use Rattle.model.specs.Message.{room}
use Rattle.model.specs.Lent.{is_valid}
use Rattle.message.specs.NextMessage.{next_message}
use Rattle.pool_account.specs.Statements.{free}
use Rattle.status.specs.declared.row.TaskRow.{TaskRow}
use Rattle.status.specs.declared.row.MutexRow.{MutexRow}
use Rattle.status.specs.declared.row.BufferRow.{BufferRow}
use Rattle.status.specs.declared.row.PoolRow.{PoolRow}

-- "existing", from the entries that are 0 where there is none
unfoldable pub is_there : List ℕ → ℕ → Bool
is_there entries n = not (eqb (entries ! n) 0)

-- "state (1 running, 2 ready, 4 waiting, 16 dormant)"
unfoldable pub task_state : Kernel → ℕ → ℕ
task_state k t =
    let place = k.tasks.place ! t in
    cond (eqb place dormant) 16
    (cond (eqb place ready) (cond (eqb (running k) t) 1 2)
    4)

-- "the object waited for (its creating kind and number, or 0 and 0)": in 01's table of kinds cre_mtx is 10, cre_mbf 20 and cre_mpf 30 hexadecimal
unfoldable pub awaited_kind : Kernel → ℕ → ℕ
awaited_kind k t =
    let place = k.tasks.place ! t in
    cond (eqb place locking) 0x10
    (cond (eqb place sending || eqb place receiving) 0x20
    (cond (eqb place getting) 0x30
    0))

unfoldable pub awaited_object : Kernel → ℕ → ℕ
awaited_object k t = cond (eqb (awaited_kind k t) 0) 0 (k.tasks.object ! t)

-- "milliseconds left (-1 for endless, 0 for no wait)"
unfoldable pub shown_time : ℕ → ℤ
shown_time left = cond (eqb left endless) (minus 1) (pos left)

unfoldable pub time_left : Kernel → ℕ → ℤ
time_left k t = cond (eqb (awaited_kind k t) 0) (pos 0) (shown_time (k.tasks.left ! t))

-- "state [..], base and current priority, the object waited for [..] and milliseconds left"
unfoldable pub task_row : Kernel → ℕ → TaskRow
task_row k t =
    record {
      state = task_state k t;
      base = k.tasks.base ! t;
      current = k.tasks.current ! t;
      kind = awaited_kind k t;
      object = awaited_object k t;
      left = time_left k t;
    }

-- "mutexes (holder, first waiter)"
unfoldable pub mutex_row : Kernel → ℕ → MutexRow
mutex_row k m = record { holder = k.mutexes.holder ! m; waiter = queue_front k (queue locking m) }

-- "buffers (free bytes, length of the next message as 01 shows it, first waiters, 0 for none)"; 02, request Nine, "the board gains that number for a message
-- of maxmsz bytes"
unfoldable pub buffer_row : Lent → ℕ → BufferRow
buffer_row x b =
    let k = x.kernel in
    record {
      free = k.buffers.bufsz ! b - k.buffers.used ! b;
      room = room (k.buffers.bufsz ! b) (k.buffers.used ! b) (k.buffers.maxmsz ! b);
      next = length (next_message x (pos b));
      receiver = queue_front k (queue receiving b);
      sender = queue_front k (queue sending b);
    }

-- "pools (free count, first waiter)"
unfoldable pub pool_row : Kernel → ℕ → PoolRow
pool_row k p = record { free = free k.pools p; waiter = queue_front k (queue getting p) }

-- ---- what the functions that make a row ask

-- when a row is asked for: what is lent is valid, and the number is that of an object that exists
abbrev pub AskedOf : ℕ → (ℕ → Bool) → List ℕ → List ℕ → List ℕ → ℕ → Type 0
AskedOf objects exists words store outbox n = (is_valid words store outbox ≡ true) × (1 ≤ n) × (n ≤ objects) × (exists n ≡ true)

-- a time that a row can hold
abbrev pub TimeFits : ℕ → Type 0
TimeFits left = (left ≤ longest) ⊎ (left ≡ endless)
