-- The next message of a buffer, of which a row shows the length, and the room for one of maxmsz bytes. Assumes nothing.
use mir.Syntax.{w32}
use mir.Val.{Fits}
use Rattle.model.proofs.Terms.{ℕ, ◌≤◌, arith, ◌≡◌, inl, inr, true, List, length, length-take, length-drop, pos, le-ltb, buffers, region_bytes, ◌!◌, saturated, Kernel, Lent, room, oldest, part, region, outbox_message, bad_number, no_such, BufferRange, valid, Valid}
use Rattle.message.specs.NextMessage.{message_at, located, has_buffer, next_location, next_message}
use Rattle.message.specs.declared.next.Location.{Location}
use Rattle.message.specs.declared.next.Location.TheVariants.{Stored, Sent, Nowhere}
use Rattle.message.proofs.RoomLaws.{room-is-exact}
use Rattle.status.specs.Rows.{is_there}

-- ---- a message by where it lies

-- none is longer than a region
short : (at : Location) (s o : List ℕ) → length (message_at at s o) ≤ region_bytes
unfolding message_at oldest region outbox_message part
short (Stored b) s o = simp (length-take, length-drop) (omega arith)
short (Sent t n) s o = simp length-take (omega arith)
short Nowhere s o = omega arith

module _ (at : Location) (s o : List ℕ) {m : List ℕ} (e : m ≡ message_at at s o) where
  pub length-fits : Fits w32 (length m)
  length-fits = rw e (record { fits = omega (arith, short at s o) })

  pub length-there : {found : Location} (k : Kernel) (b : ℕ) → found ≡ located k b → found ≡ at → length m ≡ length (message_at (located k b) s o)
  length-there k b lies there = rw (e, ← there, lies)

-- ---- a buffer that exists in a valid state

module _ (x : Lent) (b : ℕ) (low : 1 ≤ b) (high : b ≤ buffers) where
  -- its next message is shown
  pub next-shown : valid x ≡ true → is_there x.kernel.buffers.exists b ≡ true
      → next_message x (pos b) ≡ message_at (located x.kernel b) x.store x.outbox
  unfolding next_message next_location has_buffer bad_number no_such is_there
  next-shown sound there = rw (sound, le-ltb b 1 low, le-ltb buffers b high, there)

  -- no more bytes are used than it has
  pub used-inside : Valid x → x.kernel.buffers.used ! b ≤ x.kernel.buffers.bufsz ! b
  unfolding BufferRange
  used-inside v = elim (v.is_buffer_range b low high) [ inl h ↦ omega (arith, h.4) | inr h ↦ h.4 ]

  -- 32 bits hold the room for a message of maxmsz bytes
  pub room-shown : Valid x → let k = x.kernel.buffers in
      saturated (room (k.bufsz ! b) (k.used ! b) (k.maxmsz ! b)) ≡ room (k.bufsz ! b) (k.used ! b) (k.maxmsz ! b)
  unfolding BufferRange
  room-shown v =
      room-is-exact x v b low high (x.kernel.buffers.maxmsz ! b)
      (elim (v.is_buffer_range b low high) [ inl h ↦ omega (arith, h.3) | inr h ↦ h.3.1 ])
