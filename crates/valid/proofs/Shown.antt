-- Where the next message lies that is shown, by what was found out. Assumes nothing.
use Rattle.std.specs.Prelude.{Option}
use Prim.Native.Nat.{ℕ}
use mathlib.Core.Path.{◌≡◌, ◌∙◌, refl, sym, ap}
use mathlib.Core.Bool.{Bool, true, false, ◌&&◌, not, cond, false≢true}
use mathlib.Core.List.{List}
use lib.ListN.{length}
use lib.IntN.{ℤ}
use lib.Dec.{eqb}
use borrow.Author.Tests.{eq-eqb, ne_eqb, not-true, not-false}
use Rattle.model.specs.Sizes.{buffers}
use Rattle.model.specs.Lists.{◌!◌}
use Rattle.model.specs.Code.{number}
use Rattle.model.specs.Facts.{queue, sending}
use Rattle.model.specs.Number.{field_number, maybe_task, maybe_buffer, BufferNumber, TaskNumber}
use Rattle.model.specs.Kernel.{Kernel}
use Rattle.model.specs.World.{queue_front}
use Rattle.model.specs.Refusal.{bad_number, no_such}
use Rattle.model.specs.Valid.{valid}
use Rattle.model.proofs.NumberLaws.{field-inside, field-outside, task_kind, buffer_kind, is_some, is_none}
use Rattle.model.specs.Words.{word_count, kernel}
use Rattle.message.specs.NextMessage.{message_at, located, has_buffer, next_location}
use Rattle.message.specs.declared.next.Location.{Location}
use Rattle.message.specs.declared.next.Location.TheVariants.{Stored, Sent, Nowhere}
use Rattle.valid.specs.Tests.{itself, and-agrees, eq-agrees}
use Rattle.model.specs.Lent.{lent, is_valid}
use Rattle.valid.specs.Shown.{shown_location, shown_message}

-- ---- what is lent is checked, then the number, then the buffer

module _ (w s o : List ℕ) where
  -- what is valid has the words of a state
  pub are_words : (v : Bool) → v ≡ is_valid w s o → not v ≡ false → length w ≡ word_count
  unfolding is_valid
  are_words v told ok =
      ((and-agrees (eqb (length w) word_count) (valid (lent w s o)) (eq-agrees (length w) word_count) (itself (valid (lent w s o)))).0 (sym told ∙ not-false v ok)).0

  module _ (n : ℤ) (v : Bool) (told : v ≡ is_valid w s o) where
    pub not_valid : not v ≡ true → Nowhere ≡ shown_location w s o n
    unfolding is_valid shown_location next_location has_buffer
    not_valid bad = go (eqb (length w) word_count) (sym told ∙ not-true v bad)
      where
        go : (b : Bool) → b && valid (lent w s o) ≡ false → Nowhere ≡ cond b (next_location (lent w s o) n) Nowhere
        go true q = rw q
        go false q = refl

    module _ (ok : not v ≡ false) where
      -- a valid state: its buffers decide
      by-buffer : shown_location w s o n
          ≡ cond (not (bad_number buffers n).applies && not (no_such (kernel w).buffers.exists n).applies) (located (kernel w) (number n)) Nowhere
      unfolding is_valid shown_location next_location has_buffer
      by-buffer = go (eqb (length w) word_count) (sym told ∙ not-false v ok)
        where
          go : (b : Bool) → b && valid (lent w s o) ≡ true → cond b (next_location (lent w s o) n) Nowhere
              ≡ cond (not (bad_number buffers n).applies && not (no_such (kernel w).buffers.exists n).applies) (located (kernel w) (number n)) Nowhere
          go true q = rw q
          go false q = absurd (false≢true q)

      -- the field is handed on as a word
      module _ (m : ℤ) (same : m ≡ n) {found : Option BufferNumber} (made : found ≡ maybe_buffer (field_number m buffers)) where
        made_of : found ≡ maybe_buffer (field_number n buffers)
        made_of = made ∙ ap (λ (i : ℤ). maybe_buffer (field_number i buffers)) same

        pub no_number : found ≡ buffer_kind.none → Nowhere ≡ shown_location w s o n
        unfolding bad_number
        no_number none = sym (by-buffer ∙ rw (field-outside buffers n (is_none buffer_kind made_of none)))

        module _ (b : ℕ) (some : found ≡ buffer_kind.some b) (there : ℕ) (e : there ≡ (kernel w).buffers.exists ! b) where
          by-entry : shown_location w s o n ≡ cond (not (eqb there 0)) (located (kernel w) b) Nowhere
          unfolding bad_number no_such
          by-entry =
              let is = is_some buffer_kind made_of some in
              let f = field-inside buffers n is.1 in
              by-buffer ∙ rw (f.0, f.1, ← is.0, ← e)

          pub no_buffer : there ≡ 0 → Nowhere ≡ shown_location w s o n
          no_buffer z = sym (by-entry ∙ rw (eq-eqb _ _ z))

          pub by-located : (there ≡ 0 → ⊥) → (at : Location) → at ≡ located (kernel w) b → at ≡ shown_location w s o n
          by-located d at q = q ∙ sym (by-entry ∙ rw (ne_eqb _ _ d))

-- ---- where a buffer's next message lies

module _ (k : Kernel) (b : BufferNumber) (used : ℕ) (u : used ≡ k.buffers.used ! b.0) where
  pub is-stored : (used ≡ 0 → ⊥) → Stored b ≡ located k b.0
  unfolding located
  is-stored d = rw (← u, ne_eqb _ _ d)

  module _ (empty : used ≡ 0) (n : ℕ) (word : n ≡ b.0) {found : Option TaskNumber} (front : found ≡ maybe_task (queue_front k (queue sending n))) where
    pub nobody-sends : found ≡ task_kind.none → Nowhere ≡ located k b.0
    unfolding located
    nobody-sends none = rw (← u, eq-eqb _ _ empty, ← word, eq-eqb _ _ (is_none task_kind front none))

    pub is-sent : (t : TaskNumber) (m : ℕ) → found ≡ task_kind.some t.0 → m ≡ k.tasks.argument ! t.0 → Sent t m ≡ located k b.0
    unfolding located
    is-sent t m some a =
        let is = is_some task_kind front some in
        rw (← u, eq-eqb _ _ empty, ← word, ne_eqb _ _ is.1, a, ← is.0)

-- ---- what is shown

pub shown-there : (w s o : List ℕ) (n m : ℤ) (at : Location) (message : List ℕ) → m ≡ n → at ≡ shown_location w s o m → message ≡ message_at at s o
    → message ≡ shown_message w s o n
unfolding shown_message
shown-there w s o n m at message same e f = f ∙ rw (e, same)
