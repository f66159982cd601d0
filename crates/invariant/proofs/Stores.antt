-- A buffer's messages change: one is stored behind the others, or the oldest is taken.
use mathlib.Core.Logic.{⊎_elim}
use Rattle.model.proofs.Terms.{ℕ, ◌+◌, ◌*◌, ◌≤◌, arith, ◌≡◌, ◌∙◌, sym, subst, ◌≢◌, inr, List, length, set-get_or, tasks, buffers, message_bytes, region_bytes, ◌!◌, receiving, Kernel, with_buffers, with_used, facts, stands_in, ready_at, ready_bitmap, World, cost, region, with_region, store_message, Each, From, Layout, Priorities, Bitmap}
use Rattle.message.proofs.Areas.{length-with_region, region-same, region-other}
use Rattle.message.proofs.Packing.{length-appended}
use Rattle.message.proofs.Parts.{region-size}
use Rattle.message.proofs.Kept.{layout-append}
use Rattle.invariant.specs.Rows.{BufferRow, buffer_rows, open_world}
use Rattle.invariant.specs.Invariant.{Sends, Invariant, Steady}
use Rattle.invariant.proofs.Parts.{buffer-exchanged}

-- what is known of a buffer that is there
pub record Usable (b : BufferRow) : Type 0 where
  pub there : b.exists ≡ 1
  pub size : b.bufsz ≤ region_bytes
  pub longest : From 1 message_bytes b.maxmsz
  pub room : b.used ≤ b.bufsz

module _ {exiting : ℕ} {k : Kernel} {store outbox : List ℕ} (v : Invariant exiting k store outbox) (b : ℕ) (low : 1 ≤ b) (high : b ≤ buffers) where
  abbrev buffer : BufferRow
  buffer = buffer_rows k.buffers b

  pub buffer-there : buffer.exists ≢ 0 → Usable buffer
  buffer-there n = ⊎_elim (λ g. absurd (n g.0)) (λ g. record { there = g.0; size = g.2; longest = g.3; room = g.4 }) (v.of_buffers.shape b low high)

  pub region-long : length (region b store) ≡ region_bytes
  region-long = region-size b store low (omega (arith, v.of_buffers.size))

  -- another number of bytes used, and another region; nobody waits there to receive
  pub region-exchanged : (used : ℕ) (r : List ℕ) → buffer.exists ≢ 0 → used ≤ buffer.bufsz → length r ≡ region_bytes → Layout buffer.maxmsz used r
      → Each tasks (λ u. k.tasks.place ! u ≡ receiving → k.tasks.object ! u ≢ b) → Invariant exiting (with_used k b used) (with_region b store r) outbox
  unfolding with_used with_buffers
  region-exchanged used r there fits full layout nobody =
      let new : BufferRow = record { exists = buffer.exists; attribute = buffer.attribute; bufsz = buffer.bufsz; maxmsz = buffer.maxmsz; used = used } in
      let long : b * region_bytes ≤ length store = omega (arith, v.of_buffers.size) in
      rw (set-get_or, set-get_or, set-get_or, set-get_or) at
      (buffer-exchanged v b low high new (with_region b store r) (⊎_elim (λ g. absurd (there g.0)) (λ g. inr (g.0, g.1, g.2, g.3, fits)) (v.of_buffers.shape b low high)) (length-with_region b store r)
      (subst (Layout buffer.maxmsz used) (sym (region-same b store r low long full)) layout) (region-other b store r low long full)
      (λ u i j p o. let s = subst (λ (c : ℕ). Sends (buffer_rows k.buffers c) (k.tasks.argument ! u)) o (v.of_buffers.sends u i j p) in record { there = s.there; sized = s.sized })
      (λ u i j p o. absurd (nobody u i j p o)))

-- a message is stored: it fits, and nobody waits to receive
pub stored : {exiting : ℕ} {w : World} → Steady exiting w → (b : ℕ) → 1 ≤ b → b ≤ buffers → (m : List ℕ) → w.kernel.buffers.exists ! b ≢ 0
    → From 1 (w.kernel.buffers.maxmsz ! b) (length m) → w.kernel.buffers.used ! b + cost (length m) ≤ w.kernel.buffers.bufsz ! b
    → Each tasks (λ u. w.kernel.tasks.place ! u ≡ receiving → w.kernel.tasks.object ! u ≢ b) → Steady exiting (store_message w b m)
unfolding store_message open_world
stored {exiting} {w} s b low high m there sized fits nobody =
    let v = s.invariant in
    let g = buffer-there v b low high there in
    record {
      invariant =
          region-exchanged v b low high _ _ there fits (length-appended _ _ m ∙ region-long v b low high) (layout-append (v.of_buffers.layout b low high) m sized (omega (arith, g.size))) nobody;
      priorities = (unfold Priorities facts stands_in with_used with_buffers in s.priorities);
      bitmap = (unfold Bitmap ready_bitmap ready_at facts with_used with_buffers in s.bitmap);
    }
