-- The senders of a buffer, one after the other, and the buffers. Assumes nothing.
use Rattle.std.specs.Prelude.{None, Option, Some}
use Prim.Native.Nat.{ℕ, suc, ◌+◌, ◌-◌, ◌≤◌, ◌<◌}
use native.Mathlib.Nat.{min-le_left}
use native.Mathlib.Omega.{arith}
use mathlib.Core.Path.{◌≡◌, refl, sym, subst}
use mathlib.Core.Bool.{true, false, cond, not, and-eq-true_iff}
use mathlib.Core.List.{List}
use lib.ListN.{length, length-take}
use lib.Dec.{eqb}
use Rattle.model.specs.Sizes.{tasks, buffers}
use Rattle.model.specs.Lists.{◌!◌, up_to}
use Rattle.model.specs.Code.{E_OK}
use Rattle.model.specs.Number.{word_number, maybe_task, maybe_buffer, BufferNumber, TaskNumber}
use Rattle.model.specs.Valid.{From}
use Rattle.model.specs.Facts.{queue, sending}
use Rattle.model.specs.Kernel.{Kernel}
use Rattle.model.specs.Message.{cost, outbox_message}
use Rattle.model.specs.World.{World, Nothing, queue_front}
use Rattle.model.specs.Lent.{Areas}
use Rattle.model.specs.Act.{fits, first_fits, store_message, senders_message, store_first, end_wait, serve, drain}
use Rattle.model.specs.Words.{kernel}
use Rattle.model.proofs.NumberLaws.{buffer_kind, named, never-unnamed}
use Rattle.model.proofs.ByCase.{serve-more, serve-stop}
use Rattle.message.proofs.RoomLaws.{fits-within, within-fits}
use Rattle.search.proofs.Senders.{first_some}
use Rattle.act.specs.Held.{areas, Does, DoesInStore, DoesInLog}
use Rattle.act.proofs.Doing.{world, does}
use Rattle.act.proofs.Loop.{Left, left-all, stays, over}
use Rattle.transfer.specs.Serving.{FirstSender, served}

-- ---- the first sender, if its message fits

pub first-sender : (k : Kernel) (b : ℕ) {f : Option TaskNumber} {t : TaskNumber} → f ≡ maybe_task (cond (first_fits k b) (queue_front k (queue sending b)) 0)
    → f ≡ Some t → FirstSender k b t.0
first-sender k b f-is e = let r = first_some k b f-is e in record { fits = r.0; first = r.1 }

-- ---- its message is stored, and its wait ends

module _ (s o : List ℕ) {b t n : ℕ} {m : List ℕ} (q : FirstSender (kernel s) b t) (n-is : n ≡ (kernel s).tasks.argument ! t) (m-is : m ≡ outbox_message t n o) where
  -- no more than was asked for lies in the outbox
  pub sender-fits : fits (kernel s) b (length m) ≡ true
  unfolding first_fits outbox_message cost
  sender-fits =
      let h = fits-within (kernel s) b n (rw (← q.first, ← n-is) at ((and-eq-true_iff (not (eqb (queue_front (kernel s) (queue sending b)) 0)) _).0 q.fits).1) in
      let l : length m ≤ n = rw m-is (simp length-take (min-le_left n _)) in
      within-fits (kernel s) b (length m) (omega arith)

  pub stores-first : {st s1 st1 l s' o' l' : List ℕ} {at next : ℕ} → DoesInStore (λ w. store_message w b m) s st s1 st1
      → DoesInLog (λ w. end_wait w t E_OK Nothing) s1 o l at s' o' l' next → Does (λ w. store_first w b) (areas s st o l) at (areas s' st1 o' l') next
  unfolding store_first senders_message
  stores-first {l = l} {at = at} u d = does λ k es h.
      rw (← q.first, ← n-is, ← m-is) ((d.does _).holds k _ ((u.does o l at).holds k _ h))

-- ---- the senders of a buffer, one after the other

-- so many times at most
abbrev pub turns : ℕ → ℕ → World → World
turns n b w = serve n (λ u. first_fits u.kernel b) (λ u. store_first u b) w

module _ {whole : World → World} (b : ℕ) {a c : Areas} {at mid : ℕ} where
  pub serve-next : (i : ℕ) {d : Areas} {next : ℕ} → i < tasks → Left whole (turns (tasks - i) b) a at c mid → first_fits (kernel c.words) b ≡ true
      → Does (λ w. store_first w b) c mid d next → Left whole (turns (tasks - (i + 1)) b) a at d next
  serve-next i h l q f =
      let k : tasks - i ≡ suc (tasks - (i + 1)) = omega arith in
      let g = subst (λ (n : ℕ). Left whole (turns n b) a at c mid) k l in
      record {
        then = λ z end e. g.then z end
            (does λ k es x.
            rw (serve-more (λ u. first_fits u.kernel b) (λ u. store_first u b) (world c es) (tasks - (i + 1)) q)
            (e.holds k _ (f.holds k _ x)));
      }

  pub serve-none : (n : ℕ) → Left whole (turns n b) a at c mid → first_fits (kernel c.words) b ≡ false → Does whole a at c mid
  serve-none n l e = l.then c mid (stays c mid (λ es. serve-stop (λ u. first_fits u.kernel b) (λ u. store_first u b) (world c es) n e))

  pub serve-end : (n : ℕ) → n ≡ 0 → Left whole (turns n b) a at c mid → Does whole a at c mid
  serve-end n e l = l.then c mid (subst (λ (m : ℕ). Does (turns m b) c mid c mid) (sym e) (stays c mid (λ es. refl)))

-- ---- the buffers, one after the other

pub left-drain : {a : Areas} {at : ℕ} → Left drain (over served (up_to buffers)) a at a at
unfolding drain
left-drain = left-all

module _ (n : ℕ) {found : Option BufferNumber} (made : found ≡ maybe_buffer (word_number n buffers)) {a c : Areas} {at next : ℕ} where
  pub drains-buffer : {b : BufferNumber} → found ≡ Some b → Does (served b.0) a at c next → Does (served n) a at c next
  drains-buffer e d = subst (λ (m : ℕ). Does (served m) a at c next) (named buffer_kind made e).0 d

  -- every number from 1 to the last names a buffer
  pub drains-none : From 1 buffers n → found ≡ None → Does (served n) a at c next
  drains-none h e = absurd (never-unnamed buffer_kind made h.0 h.1 e)
