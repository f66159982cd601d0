-- What a call works on: the kernel, the two lent areas, and the waits that it has ended so far.
use Rattle.std.specs.Prelude.{ℕ, Bool, List, [], ◌∷◌, ◌++◌, ℤ}
use Rattle.model.specs.Lists.{◌!◌}
use Rattle.model.specs.Facts.{Queue}
use Rattle.model.specs.Priority.{effectives}
use Rattle.model.specs.Queue.{order, front, would_head, next_to_run, ready_at, ready_bitmap, with_priority}
use Rattle.model.specs.Kernel.{Kernel, facts, with_bitmap, with_currents}

-- What is lent to a call: the kernel's state, the store and the outbox.
pub record Lent : Type 0 where
  pub kernel : Kernel
  pub store : List ℕ
  pub outbox : List ℕ

-- What an answer or an ended wait brings with it: nothing, a message's bytes, a block's number.
pub data Delivery : Type 0 where
  Nothing : Delivery
  Message : List ℕ → Delivery
  Block : ℕ → Delivery

pub record Ended : Type 0 where
  pub task : ℕ
  pub code : ℤ
  pub delivery : Delivery

pub record World : Type 0 where
  pub kernel : Kernel
  pub store : List ℕ
  pub outbox : List ℕ
  pub ended : List Ended

abbrev pub begun : Lent → World
begun x = record { kernel = x.kernel; store = x.store; outbox = x.outbox; ended = [] }

abbrev pub lent_of : World → Lent
lent_of w = record { kernel = w.kernel; store = w.store; outbox = w.outbox }

unfoldable pub with_kernel : World → Kernel → World
with_kernel w k = record { kernel = k; store = w.store; outbox = w.outbox; ended = w.ended }

unfoldable pub with_store : World → List ℕ → World
with_store w s = record { kernel = w.kernel; store = s; outbox = w.outbox; ended = w.ended }

unfoldable pub with_outbox : World → List ℕ → World
with_outbox w o = record { kernel = w.kernel; store = w.store; outbox = o; ended = w.ended }

unfoldable pub with_ended : World → ℕ → ℤ → Delivery → World
with_ended w t c d =
    record {
      kernel = w.kernel;
      store = w.store;
      outbox = w.outbox;
      ended = w.ended ++ record { task = t; code = c; delivery = d } ∷ [];
    }

-- the kernel's queues, by its current priorities
unfoldable pub queue_order : Kernel → Queue → List ℕ
queue_order k q = order (facts k) k.tasks.current q

unfoldable pub queue_front : Kernel → Queue → ℕ
queue_front k q = front (facts k) k.tasks.current q

unfoldable pub heads_queue : Kernel → Queue → ℕ → Bool
heads_queue k q t = would_head (facts k) k.tasks.current q t

-- "The running task makes the call." 0 if none runs.
unfoldable pub running : Kernel → ℕ
running k = next_to_run (facts k) k.tasks.current

-- 02, request Three, the bits as worked out afresh: those of all priorities, and that of one, where the ready tasks of no other have changed
abbrev pub with_fresh_bits : Kernel → Kernel
with_fresh_bits k = with_bitmap k (ready_bitmap (facts k) k.tasks.current)

abbrev pub with_fresh_bit : Kernel → ℕ → Kernel
with_fresh_bit k p = with_bitmap k (with_priority (k.bitmap ! 0) p (ready_at (facts k) k.tasks.current p))

-- "priorities settled": every current priority becomes the effective one, and the bits go with them
unfoldable pub recompute : Kernel → Kernel
recompute k = with_fresh_bits (with_currents k (effectives (facts k)))

-- what has to unfold for the definitions of this file to compute
unfoldable pub compute_world : Unit {0}
unfolding with_kernel with_store with_outbox with_ended queue_order queue_front heads_queue running recompute
compute_world = tt
