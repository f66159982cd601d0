-- A wait begins and ends, in the order of the code's steps. Assumes nothing.
use Prim.Native.Nat.{ℕ}
use mathlib.Core.Path.{◌≡◌, ◌∙◌, refl, sym}
use mathlib.Core.List.{List, []}
use mathlib.Core.Logic.{◌≢◌}
use lib.IntN.{ℤ}
use lib.Dec.{eqb}
use borrow.Author.Tests.{eq-eqb, ne_eqb}
use Rattle.model.specs.Lists.{◌!◌}
use Rattle.model.specs.Facts.{queue, ready_queue, locking, sending}
use Rattle.model.specs.Kernel.{Kernel, with_object, with_argument, with_left}
use Rattle.model.specs.World.{Delivery, Nothing, with_kernel, with_outbox, with_ended, recompute}
use Rattle.model.specs.Message.{with_outbox_message}
use Rattle.model.specs.Act.{arrive, recompute_if, millis, wait, leave_kernel, leave, end_wait}
use Rattle.model.specs.Log.{ended_bytes, delivery_bytes}
use Rattle.model.specs.Words.{kernel}
use Rattle.model.proofs.ByCase.{recompute-if, recompute-not, leaves-sending, leaves-other}
use Rattle.state.specs.Words.{Represents}
use Rattle.script.specs.Place.{Appends, Wrote}
use Rattle.script.specs.Item.{ended_with}
use Rattle.script.proofs.Appending.{wrote, wrote-more, ended-parts}
use Rattle.act.specs.Held.{DoesInWords, DoesInLog}
use Rattle.act.specs.Ends.{wait_begun, Leaves, unblocked, Unblocks}
use Rattle.act.proofs.Doing.{does-words, does, ended-more}

-- priorities are settled where the place is that of a wait for a mutex
module _ {place : ℕ} (k : Kernel) where
  settles : place ≡ locking → recompute_if (eqb place locking) k ≡ recompute k
  settles e = rw (eq-eqb place locking e) (recompute-if k)

  settles-not : place ≢ locking → recompute_if (eqb place locking) k ≡ k
  settles-not e = rw (ne_eqb place locking e) (recompute-not k)

module _ (t place object argument : ℕ) (timeout : ℤ) (s : List ℕ) where
  pub begins : {s1 s2 s3 : List ℕ} {left : ℕ} → Represents s1 (arrive (kernel s) t (queue place object)) → Represents s2 (with_argument (kernel s1) t argument)
      → left ≡ millis timeout → Represents s3 (with_left (kernel s2) t left) → Represents s3 (wait_begun (kernel s) t (queue place object) argument timeout)
  unfolding wait_begun
  begins a b m c = record { length = c.length; kernel = cc }

  module _ {s1 : List ℕ} (b : Represents s1 (wait_begun (kernel s) t (queue place object) argument timeout)) where
    waits : {s' : List ℕ} → Represents s' (recompute_if (eqb place locking) (kernel s1)) → DoesInWords (λ w. wait w t (queue place object) argument timeout) s s'
    unfolding wait wait_begun with_kernel
    waits r = does-words _ (rw b.kernel at r) (λ store outbox log es. refl)

    pub waits-locking : {s' : List ℕ} → place ≡ locking → Represents s' (recompute (kernel s1))
        → DoesInWords (λ w. wait w t (queue place object) argument timeout) s s'
    waits-locking e r = waits (rw (settles (kernel s1) e) r)

    pub waits-other : place ≢ locking → DoesInWords (λ w. wait w t (queue place object) argument timeout) s s1
    waits-other e = waits (record { length = b.length; kernel = sym (settles-not (kernel s1) e) })

module _ {t place : ℕ} {s s1 s2 s3 o : List ℕ} (p : place ≡ (kernel s).tasks.place ! t) where
  pub leave-sender : Represents s1 (with_object (kernel s) t 0) → Represents s2 (with_argument (kernel s1) t 0)
      → Represents s3 (with_left (kernel s2) t 0) → place ≡ sending → {o' : List ℕ} → o' ≡ with_outbox_message t o [] → Leaves t s o s3 o'
  unfolding leave_kernel
  leave-sender a b c e f =
      record { state = record { length = c.length; kernel = cc }; outbox = f ∙ sym (leaves-sending (kernel s) o t (sym p ∙ e)) }

  pub leave-other : Represents s1 (with_object (kernel s) t 0) → Represents s2 (with_argument (kernel s1) t 0)
      → Represents s3 (with_left (kernel s2) t 0) → place ≢ sending → Leaves t s o s3 o
  unfolding leave_kernel
  leave-other a b c e =
      record {
        state = record { length = c.length; kernel = cc };
        outbox = sym (leaves-other (kernel s) o t (λ q. e (p ∙ q)));
      }

module _ {t place : ℕ} {s s1 s2 o o1 : List ℕ} (p : place ≡ (kernel s).tasks.place ! t) (l : Leaves t s o s1 o1)
    (a : Represents s2 (arrive (kernel s1) t ready_queue)) where
  ready : kernel s2 ≡ arrive (leave_kernel (kernel s) t) t ready_queue
  ready = a.kernel ∙ rw l.state.kernel

  pub unblocks-locking : {s3 : List ℕ} → place ≡ locking → Represents s3 (recompute (kernel s2)) → Unblocks t s o s3 o1
  unfolding unblocked
  unblocks-locking e r =
      record {
        state = record { length = r.length; kernel = r.kernel ∙ rw ready (sym (settles _ (sym p ∙ e))) };
        outbox = l.outbox;
      }

  pub unblocks-other : place ≢ locking → Unblocks t s o s2 o1
  unfolding unblocked
  unblocks-other e =
      record { state = record { length = a.length; kernel = ready ∙ sym (settles-not _ (λ q. e (p ∙ q))) }; outbox = l.outbox }

-- a wait's end is logged as its code and what it delivers
module _ {t : ℕ} {s s' o o' log log' : List ℕ} {at next : ℕ} where
  ends : (c : ℤ) (d : Delivery) → Unblocks t s o s' o' → Wrote log at (ended_bytes (record { task = t; code = c; delivery = d })) log' next
      → DoesInLog (λ w. end_wait w t c d) s o log at s' o' log' next
  unfolding end_wait leave unblocked with_kernel with_outbox with_ended
  ends c d u g =
      record {
        does = λ store. does λ l es h.
            record { state = u.state; store = refl; outbox = u.outbox; log = rw (ended-more l.head es) (wrote-more h.log g) };
      }

  pub ends-nothing : {b c : ℤ} → Unblocks t s o s' o' → b ≡ c → Appends log at (ended_bytes (ended_with t b)) log' next
      → DoesInLog (λ w. end_wait w t c Nothing) s o log at s' o' log' next
  ends-nothing {b} {c} u e l = ends c Nothing u (wrote (rw e at l))

  pub ends-delivering : {b c : ℤ} (d : Delivery) {mid : List ℕ} {m : ℕ} → Unblocks t s o s' o' → b ≡ c
      → Appends log at (ended_bytes (ended_with t b)) mid m → Appends mid m (delivery_bytes t d) log' next
      → DoesInLog (λ w. end_wait w t c d) s o log at s' o' log' next
  ends-delivering {b} {c} d u e l g =
      ends c d u (rw (ended-parts (record { task = t; code = c; delivery = d })) (wrote-more (wrote (rw e at l)) (wrote g)))
