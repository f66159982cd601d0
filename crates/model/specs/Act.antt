-- The acts that effects are made of, each said once for all kinds of object.
use Rattle.std.specs.Prelude.{ℕ, zero, suc, ◌+◌, Bool, true, false, ◌&&◌, not, cond, length, ℤ, pos, negsuc, eqb}
use mathlib.Core.List.{List, [], foldl}
use Rattle.std.specs.Int.Signed.{non_neg}
use Rattle.model.specs.Sizes.{tasks, mutexes, buffers, endless}
use Rattle.model.specs.Lists.{◌!◌, up_to, first_where}
use Rattle.model.specs.Code.{E_OK}
use Rattle.model.specs.Facts.{Queue, queue, ready_queue, dormant, locking, sending}
use Rattle.model.specs.Kernel.{Kernel, with_arrivals, with_place, with_object, with_argument, with_base, with_left, with_holder, with_used, departed, arrived}
use Rattle.model.specs.World.{World, Delivery, Nothing, with_kernel, with_store, with_outbox, with_ended, queue_front, with_fresh_bit, recompute}
use Rattle.model.specs.Message.{cost, room, appended, region, with_region, outbox_message, with_outbox_message}

-- A task arrives in a queue: last, and taken from where it stood. It becomes ready or is so no more, so the bit of its priority is worked
-- out afresh.
unfoldable pub arrive : Kernel → ℕ → Queue → Kernel
arrive k t q =
    with_fresh_bit (with_arrivals (with_object (with_place k t q.place) t q.object) (arrived t k.arrivals)) (k.tasks.current ! t)

-- priorities settled, where a wait for a mutex begins or ends
unfoldable pub recompute_if : Bool → Kernel → Kernel
recompute_if b k = cond b (recompute k) k

unfoldable pub settled : World → World
settled w = with_kernel w (recompute w.kernel)

-- the milliseconds of a timeout: -1 and below stand for no end
abbrev pub millis : ℤ → ℕ
millis (pos n) = n
millis (negsuc n) = endless

-- A task begins to wait in a queue, with the argument of the wait.
unfoldable pub wait : World → ℕ → Queue → ℕ → ℤ → World
wait w t q argument timeout =
    with_kernel w
    (recompute_if (eqb q.place locking)
    (with_left (with_argument (arrive w.kernel t q) t argument) t (millis timeout)))

-- A task's wait is over, whatever ended it: its fields are cleared,
unfoldable pub leave_kernel : Kernel → ℕ → Kernel
leave_kernel k t = with_left (with_argument (with_object k t 0) t 0) t 0

-- and a sender's bytes leave the outbox.
unfoldable pub leave_outbox : Kernel → List ℕ → ℕ → List ℕ
leave_outbox k outbox t = cond (eqb (k.tasks.place ! t) sending) (with_outbox_message t outbox []) outbox

unfoldable pub leave : World → ℕ → World
leave w t = with_outbox (with_kernel w (leave_kernel w.kernel t)) (leave_outbox w.kernel w.outbox t)

-- A wait ends with a code and what it delivers: the task is ready again.
unfoldable pub end_wait : World → ℕ → ℤ → Delivery → World
end_wait w t c d =
    let v = leave w t in
    with_ended (with_kernel v (recompute_if (eqb (w.kernel.tasks.place ! t) locking) (arrive v.kernel t ready_queue))) t c d

-- several waits end with one code, in the order given
unfoldable pub end_waits : World → List ℕ → ℤ → World
end_waits w ts c = foldl (λ v t. end_wait v t c Nothing) w ts

-- A mutex is given up: "the first waiter gets it and its wait ends with 0"; without a waiter it is free.
unfoldable pub release : World → ℕ → World
release w m =
    let t = queue_front w.kernel (queue locking m) in
    let v = with_kernel w (with_holder w.kernel m t) in
    cond (eqb t 0) (settled v) (end_wait v t E_OK Nothing)

-- "gives up its mutexes from the lowest number, priorities settled after each act"
unfoldable pub release_all : World → ℕ → World
release_all w t = foldl (λ v m. cond (eqb (v.kernel.mutexes.holder ! m) t) (release v m) v) w (up_to mutexes)

-- "the task leaves its wait unanswered, then gives up its mutexes"; "Base becomes the initial priority [..] whenever a
-- task becomes dormant."
unfoldable pub become_dormant : World → ℕ → World
become_dormant w t =
    let v = leave w t in
    let k = with_place (with_arrivals v.kernel (departed t v.kernel.arrivals)) t dormant in
    release_all (settled (with_kernel v (with_base k t (k.tasks.initial ! t)))) t

-- "at most bufsz in all": a message of n bytes fits where its room is not negative
unfoldable pub fits : Kernel → ℕ → ℕ → Bool
fits k b n = non_neg (room (k.buffers.bufsz ! b) (k.buffers.used ! b) n)

-- a message is stored behind the others of its buffer
unfoldable pub store_message : World → ℕ → List ℕ → World
store_message w b m =
    let used = w.kernel.buffers.used ! b in
    with_store (with_kernel w (with_used w.kernel b (used + cost (length m))))
    (with_region b w.store (appended (region b w.store) used m))

-- the message of a waiting sender
unfoldable pub senders_message : World → ℕ → List ℕ
senders_message w t = outbox_message t (w.kernel.tasks.argument ! t) w.outbox

-- Serve from the front while it can be: an act is repeated while a test holds, at most n times.
abbrev pub serve : ℕ → (World → Bool) → (World → World) → World → World
serve zero can act w = w
serve (suc n) can act w = elim (can w) [ true ↦ serve n can act (act w) | false ↦ w ]

-- "while the first sender's message fits, it is stored and that wait ends with 0"
unfoldable pub first_fits : Kernel → ℕ → Bool
first_fits k b =
    let t = queue_front k (queue sending b) in
    not (eqb t 0) && fits k b (k.tasks.argument ! t)

unfoldable pub store_first : World → ℕ → World
store_first w b =
    let t = queue_front w.kernel (queue sending b) in
    end_wait (store_message w b (senders_message w t)) t E_OK Nothing

-- "Last in each call, buffers 1 to 4": no queue has more tasks than there are
unfoldable pub drain : World → World
drain w = foldl (λ v b. serve tasks (λ u. first_fits u.kernel b) (λ u. store_first u b) v) w (up_to buffers)

-- "A new object takes the smallest free number": the first whose entry is 0, 0 if there is none
unfoldable pub unused : List ℕ → ℕ → ℕ
unused entries last = first_where (λ n. eqb (entries ! n) 0) (up_to last)

-- what has to unfold for the definitions of this file to compute
unfoldable pub compute_act : Unit {0}
unfolding arrive recompute_if settled wait leave_kernel leave_outbox leave end_wait end_waits release release_all become_dormant fits
    store_message senders_message first_fits store_first drain unused
compute_act = tt
