-- Acts in parts, as the code takes them: what a wait's end and a task's becoming dormant do to the words and to the outbox.
use Rattle.std.specs.Prelude.{ℕ, ◌≡◌, cond, List, ℤ, eqb}
use Rattle.model.specs.Lists.{◌!◌}
use Rattle.model.specs.Facts.{Queue, ready_queue, dormant, locking}
use Rattle.model.specs.Kernel.{Kernel, with_place, with_argument, with_arrivals, with_base, with_left, departed}
use Rattle.model.specs.World.{World, recompute}
use Rattle.model.specs.Act.{arrive, recompute_if, millis, leave_kernel, leave_outbox, release}
use Rattle.model.specs.Words.{kernel}
use Rattle.state.specs.Words.{Represents}

-- `wait` before priorities are settled
unfoldable pub wait_begun : Kernel → ℕ → Queue → ℕ → ℤ → Kernel
wait_begun k t q argument timeout = with_left (with_argument (arrive k t q) t argument) t (millis timeout)

-- `leave`, by its two parts
pub record Leaves (t : ℕ) (s o s' o' : List ℕ) : Type 0 where
  pub state : Represents s' (leave_kernel (kernel s) t)
  pub outbox : o' ≡ leave_outbox (kernel s) o t

-- `end_wait` before its end is logged: the task leaves and is ready again
unfoldable pub unblocked : Kernel → ℕ → Kernel
unblocked k t = recompute_if (eqb (k.tasks.place ! t) locking) (arrive (leave_kernel k t) t ready_queue)

pub record Unblocks (t : ℕ) (s o s' o' : List ℕ) : Type 0 where
  pub state : Represents s' (unblocked (kernel s) t)
  pub outbox : o' ≡ leave_outbox (kernel s) o t

-- `release_all` at one mutex
unfoldable pub release_held : ℕ → ℕ → World → World
release_held t m w = cond (eqb (w.kernel.mutexes.holder ! m) t) (release w m) w

-- `become_dormant` before the mutexes are given up
unfoldable pub retired : Kernel → ℕ → Kernel
retired k t =
    let j = with_place (with_arrivals (leave_kernel k t) (departed t (leave_kernel k t).arrivals)) t dormant in
    recompute (with_base j t (j.tasks.initial ! t))

pub record Retires (t : ℕ) (s o s' o' : List ℕ) : Type 0 where
  pub state : Represents s' (retired (kernel s) t)
  pub outbox : o' ≡ leave_outbox (kernel s) o t
