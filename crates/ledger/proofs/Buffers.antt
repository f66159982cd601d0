-- The calls on message buffers and the ledger: it sees no message.
use Rattle.model.proofs.Terms.{E_DLT, ℕ, ◌≤◌, ℕ_discrete, arith, ◌≡◌, ◌∙◌, refl, sym, ap, ◌≢◌, Bool, true, false, none, List, ◌++◌, length, take, set-get_or, ℤ, ne_eqb, eqb-false, buffers, region_bytes, ◌!◌, zeros, E_OK, number, queue, ready, sending, receiving, locking, Kernel, Buffers, with_buffers, with_buffer_exists, with_buffer_attribute, with_bufsz, with_maxmsz, with_used, facts, stands_in, Lent, Delivery, Nothing, begun, with_kernel, with_outbox, queue_order, queue_front, running, handed, with_region, end_wait, store_message, unused, storable, nobody_runs, bad_number, bad_timeout, no_such, none_free, cre_mbf_refusals, deletion_refusals, snd_mbf_refusals, rcv_mbf_refusals, refusals, cre_mbf, del_mbf, snd_mbf, take_oldest, rcv_mbf, perform, with_buffer_entry, join, depart, with_lines, line, waits_in, answered_with}
use Rattle.model.specs.declared.call.Call.TheVariants.{CreMbf, DelMbf, SndMbf, RcvMbf}
use Rattle.model.proofs.RefusalLaws.{none-applies, in-range, unused-free}
use Rattle.model.proofs.ByCase.{send-over, send-stored, send-waits}
use Rattle.queue.proofs.Members.{front-stood}
use Rattle.invariant.specs.Rows.{BufferRow, with_buffer_row, open_world}
use Rattle.invariant.specs.Invariant.{Steady}
use Rattle.invariant.proofs.Ends.{strike}
use Rattle.preservation.proofs.Objects.{both-started}
use Rattle.ledger.specs.Abstraction.{widths, ledger_of}
use Rattle.ledger.proofs.Entries.{buffer-entered}
use Rattle.ledger.proofs.Acts.{Follows, end-follows, strike-follows}
use Rattle.ledger.proofs.Enters.{Enters, Begins, answers, caller-waits}

module _ {x : Lent} (s : Steady 0 (begun x)) where
  abbrev k : Kernel
  k = x.kernel

  pub creates-buffer : (attribute bufsz maxmsz : ℤ) → Enters x (CreMbf attribute bufsz maxmsz)
  unfolding refusals cre_mbf_refusals none_free perform cre_mbf with_kernel answered_with
  creates-buffer attribute bufsz maxmsz bytes e =
      let b = unused k.buffers.exists buffers in
      let free = unused-free k.buffers.exists buffers (eqb-false _ 0 (none-applies (refusals k (CreMbf attribute bufsz maxmsz) bytes) e 4)) in
      answers b Nothing _ (buffer-entered s.invariant b free.0.1 (new b) ∙ ap ledger_of (is b))
    where
      new : ℕ → BufferRow
      new b = record { exists = 1; attribute = number attribute; bufsz = number bufsz; maxmsz = number maxmsz; used = k.buffers.used ! b }

      is : (b : ℕ) → with_buffers k (with_buffer_row k.buffers b (new b))
          ≡ with_maxmsz (with_bufsz (with_buffer_attribute (with_buffer_exists k b 1) b (number attribute)) b (number bufsz)) b (number maxmsz)
      is b = unfold with_maxmsz with_bufsz with_buffer_attribute with_buffer_exists with_buffers in rw (set-get_or k.buffers.used b 0)

  pub deletes-buffer : (buffer : ℤ) → Enters x (DelMbf buffer)
  unfolding refusals deletion_refusals bad_number perform del_mbf with_used with_maxmsz with_bufsz with_buffer_attribute with_buffer_exists with_buffers open_world
      answered_with with_buffer_entry join depart with_lines line
  deletes-buffer buffer bytes e =
      let b = number buffer in
      let r = in-range buffers buffer (none-applies (refusals k (DelMbf buffer) bytes) e 1) in
      let row : BufferRow = record { exists = 0; attribute = 0; bufsz = 0; maxmsz = 0; used = 0 } in
      let gone : Buffers → Buffers = λ y. with_buffer_row y b row in
      let cleared : List ℕ → List ℕ = λ store. with_region b store (zeros region_bytes) in
      let order = queue_order k (queue receiving b) ++ queue_order k (queue sending b) in
      answers 0 Nothing _
      (strike-follows (λ y. y) gone (λ y. y) cleared (λ l. with_buffer_entry l b none) (λ l t q. refl) E_DLT refl order (begun x)
      (strike (λ y. y) gone (λ y. y) cleared (begun x)) refl s refl (both-started s (queue receiving b) (queue sending b) (omega arith) (omega arith))
      (λ left. buffer-entered left.steady.invariant b r.1 row))

  -- the bytes used are no part of the ledger
  used-unseen : (b n : ℕ) → ledger_of (with_used k b n) ≡ ledger_of k
  unfolding ledger_of facts stands_in with_used with_buffers
  used-unseen b n = refl

  -- whose turn it is in a queue of a buffer: its wait ends
  served : (place b : ℕ) → ready ≤ place → place ≢ locking → queue_front k (queue place b) ≢ 0 → (c : ℤ) (d : Delivery)
      → Follows (ledger_of k) (end_wait (begun x) (queue_front k (queue place b)) c d)
  served place b h other n c d =
      let f = front-stood k (queue place b) n in
      end-follows (ledger_of k) s _ f.low f.high (omega (arith, f.place)) c d (λ e. absurd (other (sym f.place ∙ e))) refl

  module _ (buffer timeout : ℤ) (runs : running k ≢ 0) (high : number buffer ≤ buffers) where
    abbrev n : ℕ
    n = number buffer

    sent : (msgsz : ℤ) (m : List ℕ) → Dec (queue_front k (queue receiving n) ≡ 0) → (b : Bool) → storable k n (length m) ≡ b
        → Begins x (SndMbf buffer msgsz timeout) (snd_mbf (begun x) n m timeout)
    unfolding answered_with waits_in
    sent msgsz m (no d) b e = rw (send-over (begun x) n m timeout refl d) (answers 0 Nothing _ (served receiving n (omega arith) (λ z. omega arith) d _ _))
    sent msgsz m (yes z) true e = rw (send-stored (begun x) n m timeout z e) (answers 0 Nothing _ (unfold store_message open_world in sym (used-unseen n _)))
    sent msgsz m (yes z) false e =
        rw (send-waits (begun x) n m timeout z e)
        (caller-waits s runs (SndMbf buffer msgsz timeout) (queue sending n) (length m) timeout _ refl (omega arith) (unfold widths in omega arith))

    received : Dec (k.buffers.used ! n ≡ 0) → Dec (queue_front k (queue sending n) ≡ 0) → Begins x (RcvMbf buffer timeout) (rcv_mbf (begun x) n timeout)
    unfolding rcv_mbf answered_with waits_in with_outbox
    received (no d) t = rw (ne_eqb _ 0 d) (answers _ _ _ (unfold take_oldest open_world in sym (used-unseen n _)))
    received (yes z) (no d) = rw (z, ne_eqb _ 0 d) (answers _ _ _ (served sending n (omega arith) (λ z. omega arith) d E_OK Nothing))
    received (yes z) (yes y) =
        rw (z, y) (caller-waits s runs (RcvMbf buffer timeout) (queue receiving n) 0 timeout x.outbox refl (omega arith) (unfold widths in omega arith))

  pub sends-message : (buffer msgsz timeout : ℤ) → Enters x (SndMbf buffer msgsz timeout)
  unfolding perform refusals snd_mbf_refusals nobody_runs bad_timeout bad_number no_such
  sends-message buffer msgsz timeout bytes e =
      let passed = none-applies (refusals k (SndMbf buffer msgsz timeout) bytes) e in
      sent buffer timeout (eqb-false _ 0 (passed 0)) (in-range buffers buffer (passed 4)).1 msgsz (take (number msgsz) (handed bytes)) (ℕ_discrete _ 0) _ refl

  pub receives-message : (buffer timeout : ℤ) → Enters x (RcvMbf buffer timeout)
  unfolding perform refusals rcv_mbf_refusals nobody_runs bad_timeout bad_number no_such
  receives-message buffer timeout bytes e =
      let passed = none-applies (refusals k (RcvMbf buffer timeout) bytes) e in
      received buffer timeout (eqb-false _ 0 (passed 0)) (in-range buffers buffer (passed 2)).1 (ℕ_discrete _ 0) (ℕ_discrete _ 0)
