-- The next message: a receive takes what was shown, and what is shown of a message is not empty. Assumes nothing.
use Prim.Native.Nat.{ℕ, ◌*◌, ◌≤◌, ◌<◌}
use native.Mathlib.Decide.{ℕ_discrete}
use native.Mathlib.Omega.{arith}
use mathlib.Core.Bool.{Bool, true, false, not}
use mathlib.Core.List.{List, []}
use mathlib.Core.Path.{◌≡◌, ◌∙◌, refl, sym, ap}
use lib.Dec.{eqb}
use lib.IntN.{ℤ}
use lib.ListN.{length, length-take}
use borrow.Author.Tests.{eq-eqb, ne_eqb}
use Rattle.model.specs.Sizes.{tasks, region_bytes, message_bytes, outbox_bytes}
use Rattle.model.specs.Lists.{◌!◌}
use Rattle.model.specs.Facts.{queue, sending}
use Rattle.model.specs.Code.{number}
use Rattle.model.specs.Number.{numbered_as}
use Rattle.model.specs.Kernel.{Kernel}
use Rattle.model.specs.World.{Lent, World, Message, queue_front}
use Rattle.model.specs.Message.{region, oldest, outbox_message}
use Rattle.model.specs.Act.{senders_message}
use Rattle.model.specs.Effect.{rcv_mbf}
use Rattle.model.specs.Valid.{From, Layout}
use Rattle.message.specs.declared.next.Location.TheVariants.{Stored, Sent, Nowhere}
use Rattle.message.specs.NextMessage.{message_at, located, has_buffer, next_location, next_message}
use Rattle.message.proofs.Parts.{part-size}
use Rattle.message.proofs.Kept.{layout-remove}

-- where the next message lies, case by case
module _ (k : Kernel) (b : ℕ) where
  pub located-stored : (k.buffers.used ! b ≡ 0 → ⊥) → located k b ≡ Stored (numbered_as b)
  unfolding located
  located-stored h = rw (ne_eqb (k.buffers.used ! b) 0 h)

  module _ (none : k.buffers.used ! b ≡ 0) where
    pub located-sent : (queue_front k (queue sending b) ≡ 0 → ⊥)
        → located k b ≡ Sent (numbered_as (queue_front k (queue sending b))) (k.tasks.argument ! queue_front k (queue sending b))
    unfolding located
    located-sent h = rw (eq-eqb (k.buffers.used ! b) 0 none, ne_eqb (queue_front k (queue sending b)) 0 h)

    pub located-nowhere : queue_front k (queue sending b) ≡ 0 → located k b ≡ Nowhere
    unfolding located
    located-nowhere h = rw (eq-eqb (k.buffers.used ! b) 0 none, eq-eqb (queue_front k (queue sending b)) 0 h)

-- the next message of a buffer, and of none
module _ (x : Lent) (n : ℤ) where
  pub next_here : has_buffer x n ≡ true → next_message x n ≡ message_at (located x.kernel (number n)) x.store x.outbox
  unfolding next_message next_location
  next_here h = rw h

  pub next-none : has_buffer x n ≡ false → next_message x n ≡ []
  unfolding next_message next_location message_at
  next-none h = rw h

-- what a receive takes is what was shown
pub received : (w : World) (b : ℕ) (timeout : ℤ) → (located w.kernel b ≡ Nowhere → ⊥)
    → (rcv_mbf w b timeout).delivery ≡ Message (message_at (located w.kernel b) w.store w.outbox)
unfolding rcv_mbf located message_at senders_message
received w b timeout some = go (not (eqb (w.kernel.buffers.used ! b) 0)) refl (not (eqb (queue_front w.kernel (queue sending b)) 0)) refl
  where
    go : (c : Bool) → not (eqb (w.kernel.buffers.used ! b) 0) ≡ c → (d : Bool) → not (eqb (queue_front w.kernel (queue sending b)) 0) ≡ d
        → (rcv_mbf w b timeout).delivery ≡ Message (message_at (located w.kernel b) w.store w.outbox)
    go true e d f = rw e
    go false e true f = rw (e, f)
    go false e false f = absurd (some (rw (e, f)))

-- a message that is stored, or that a sender waits with, shows at least a byte
not-empty : (l : List ℕ) → 1 ≤ length l → l ≡ [] → ⊥
not-empty l h e = omega (arith, ap length e)

pub stored-shown : {maxmsz used : ℕ} {r : List ℕ} → maxmsz < 256 → used ≤ region_bytes → (used ≡ 0 → ⊥) → Layout maxmsz used r → oldest r ≡ [] → ⊥
stored-shown {r = r} small room some d =
    let x = layout-remove small room some d in
    not-empty (oldest r) (let p = x.range.0 in let q = x.size in omega arith)

pub sent-shown : (t n : ℕ) (outbox : List ℕ) → 1 ≤ n → 1 ≤ t → t * message_bytes ≤ length outbox → outbox_message t n outbox ≡ [] → ⊥
unfolding outbox_message
sent-shown t n outbox h low high = not-empty _ (rw (length-take, part-size message_bytes t outbox low high) (omega arith))

-- What validity says of a buffer and of its first sender, if there is one.
pub record Stands (x : Lent) (b : ℕ) : Type 0 where
  pub longest : x.kernel.buffers.maxmsz ! b < 256
  pub room : x.kernel.buffers.used ! b ≤ region_bytes
  pub stored : Layout (x.kernel.buffers.maxmsz ! b) (x.kernel.buffers.used ! b) (region b x.store)
  pub whole : length x.outbox ≡ outbox_bytes
  pub sender : (queue_front x.kernel (queue sending b) ≡ 0 → ⊥)
      → From 1 tasks (queue_front x.kernel (queue sending b)) × (1 ≤ x.kernel.tasks.argument ! queue_front x.kernel (queue sending b))

-- "An empty part is shown exactly when order 1, 5 or 6 applies or there is no message": where none of them applies, an empty part says that
-- there is no message. The other direction is `next-none` and `next-nowhere`.
pub next-empty : (x : Lent) (n : ℤ) → has_buffer x n ≡ true → Stands x (number n) → next_message x n ≡ [] → located x.kernel (number n) ≡ Nowhere
unfolding message_at
next-empty x n h v e = go (ℕ_discrete (x.kernel.buffers.used ! number n) 0) (ℕ_discrete (queue_front x.kernel (queue sending (number n))) 0)
  where
    go : Dec (x.kernel.buffers.used ! number n ≡ 0) → Dec (queue_front x.kernel (queue sending (number n)) ≡ 0)
        → located x.kernel (number n) ≡ Nowhere
    go (no p) q =
        let shown : oldest (region (number n) x.store) ≡ [] = rw (located-stored x.kernel (number n) p) at (sym (next_here x n h) ∙ e) in
        absurd (stored-shown v.longest v.room p v.stored shown)
    go (yes p) (no q) =
        let t : ℕ = queue_front x.kernel (queue sending (number n)) in
        let s = v.sender q in
        let shown : outbox_message t (x.kernel.tasks.argument ! t) x.outbox ≡ [] =
        rw (located-sent x.kernel (number n) p q) at (sym (next_here x n h) ∙ e)
        in
        absurd (sent-shown t (x.kernel.tasks.argument ! t) x.outbox s.1 s.0.0 (let l = v.whole in let m = s.0.1 in omega arith) shown)
    go (yes p) (yes q) = located-nowhere x.kernel (number n) p q

pub next-nowhere : (x : Lent) (n : ℤ) → has_buffer x n ≡ true → located x.kernel (number n) ≡ Nowhere → next_message x n ≡ []
unfolding message_at
next-nowhere x n h e = next_here x n h ∙ rw e
