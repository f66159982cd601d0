-- snd_mbf, in the order of the code's steps.
use Rattle.std.proofs.Math.Option.{some, Option}
use Rattle.std.specs.Prelude as code
use Rattle.std.specs.Prelude.{None, Some}
use Rattle.model.proofs.Terms.{ℕ, ◌≤◌, ◌<◌, min, arith, ◌≡◌, ◌∙◌, refl, sym, ap, ◌≢◌, Bool, true, false, ◌&&◌, not, none, List, [], ◌∷◌, ◌++◌, length, take, drop, length-take, ℤ, pos, negsuc, lt_z, le_z, eq-eqb, ne_eqb, lt-ltb, le-ltb, not-true, not-false, buffers, message_bytes, ◌!◌, zeros, all_zero, E_OK, E_PAR, E_ID, E_NOEXS, E_TMOUT, saturated, number, sending, receiving, queue, Kernel, with_outbox, queue_front, heads_queue, running, Nothing, Message, handed, room, with_outbox_message, wait, end_wait, fits, store_message, bad_timeout, dirty_tail, bad_number, no_such, no_time, outside, storable, send_waits, snd_mbf_refusals, Refusal, refuse, first_refusal, snd_mbf, kernel, word_count, answer_bytes, Areas}
use mathlib.Core.Bool.{and-eq-true_iff}
use lib.Seq.{take_all, take-take, take-append-le}
use Rattle.model.specs.Number.{field_number, maybe_task, maybe_buffer, BufferNumber, TaskNumber}
use Rattle.model.specs.declared.call.Answer.TheVariants.{Code, Waits}
use Rattle.model.proofs.NumberLaws.{buffer_kind, task-is, task-is-none}
use Rattle.model.proofs.ByCase.{send-over, send-stored, send-waits}
use Rattle.message.proofs.Parts.{take-least, length-padded}
use Rattle.message.proofs.Layouts.{padded-behind}
use Rattle.message.proofs.RoomLaws.{fits-asked}
use Rattle.script.specs.Place.{Appends, placed}
use Rattle.script.proofs.Padding.{padded-placed}
use Rattle.act.specs.Held.{areas, DoesInWords, DoesInStore, DoesInLog}
use Rattle.act.proofs.Doing.{does}
use Rattle.reply.specs.declared.Reply.{Reply}
use Rattle.reply.specs.Replies.{lent_world, Carries, CarriesInStore, CarriesInLog}
use Rattle.reply.proofs.Refusing.{refused-here, refused-later, numbered, never-unnumbered, number-refused, missing-refused, there-later}
use Rattle.reply.proofs.Replying.{answer-alone, carried-in-store, carried-in-log, carries-as}
use Rattle.reply.proofs.Conditions.{timeout-refused, timeout-later, time-refused, time-later}
use Rattle.buffer.specs.Branches.{sent_over, sent_in, send_waiting}

-- ---- whether it would be stored, and whether it would wait

module _ (k : Kernel) (b n : ℕ) {caller : ℕ} (runs : caller ≡ running k) {x : ℕ} (x-is : x ≡ b) {h : Bool}
    (h-is : h ≡ heads_queue k (queue sending x) caller) where
  heads : heads_queue k (queue sending b) (running k) ≡ h
  heads = rw (← x-is, ← runs) (sym h-is)

  pub storable-behind : not h ≡ true → false ≡ storable k b n
  unfolding storable
  storable-behind e = rw (heads, not-true h e)

  pub storable-first : not h ≡ false → {used bufsz : ℕ} {r y : ℤ} → used ≡ k.buffers.used ! b → bufsz ≡ k.buffers.bufsz ! b
      → r ≡ saturated (room bufsz used n) → y ≡ r → le_z (pos 0) y ≡ storable k b n
  unfolding storable
  storable-first e u-is s-is r-is y-is = rw (heads, not-false h e) (sym (fits-asked k b n s-is u-is r-is y-is))

pub storable-fits : (k : Kernel) (b n : ℕ) → storable k b n ≡ true → fits k b n ≡ true
unfolding storable
storable-fits k b n e = ((and-eq-true_iff (heads_queue k (queue sending b) (running k)) (fits k b n)).0 e).1

module _ (k : Kernel) (b n : ℕ) {x : ℕ} (x-is : x ≡ b) {found : code.Option TaskNumber} (from : found ≡ maybe_task (queue_front k (queue receiving x))) where
  pub waits-never : {t : TaskNumber} → found ≡ Some t → false ≡ send_waits k b n
  unfolding send_waits
  waits-never e = rw (ne_eqb (queue_front k (queue receiving b)) 0 (rw x-is at (task-is _ _ (sym from ∙ e)).1))

  pub waits-unstored : found ≡ None → {r : Bool} → r ≡ storable k b n → not r ≡ send_waits k b n
  unfolding send_waits
  waits-unstored e r-is = rw (eq-eqb (queue_front k (queue receiving b)) 0 (rw x-is at (task-is-none _ (sym from ∙ e))), r-is)

-- ---- a nonzero byte behind the message

-- the test as the code makes it
pub tail-tests : (msgsz : ℤ) (bytes : List ℕ) {y : ℤ} {n : ℕ} {own tail : List ℕ} {z : ℤ} {wide clean : Bool} → y ≡ msgsz → n ≡ number y
    → own ≡ take message_bytes bytes → tail ≡ drop n own → z ≡ msgsz → wide ≡ outside (pos 1) (pos message_bytes) z → clean ≡ all_zero tail
    → not wide && not clean ≡ (dirty_tail msgsz (handed bytes)).applies
unfolding dirty_tail handed
tail-tests msgsz bytes y-is n-is own_is tail-is z-is wide_is clean_is =
    rw (wide_is, z-is, clean_is, tail-is, own_is, n-is, y-is, ← padded-behind (number msgsz) message_bytes bytes)

-- ---- the first refusal

longer : (m : ℕ) (msgsz : ℤ) → m < number msgsz → lt_z (pos m) msgsz ≡ true
longer m (pos n) h = lt-ltb m n h
longer m (negsuc n) h = absurd (omega arith)

not-longer : (m : ℕ) (msgsz : ℤ) → number msgsz ≤ m → lt_z (pos m) msgsz ≡ false
not-longer m (pos n) h = le-ltb m n h
not-longer m (negsuc n) h = refl

module _ (k : Kernel) (buffer msgsz timeout : ℤ) (bytes : List ℕ) where
  abbrev empty : Refusal
  empty = refuse 4 E_PAR (le_z msgsz (pos 0))

  abbrev dirty : Refusal
  dirty = dirty_tail msgsz bytes

  abbrev long : Refusal
  long = refuse 7 E_PAR (lt_z (pos (k.buffers.maxmsz ! number buffer)) msgsz)

  abbrev late : Refusal
  late = no_time timeout (send_waits k (number buffer) (number msgsz))

  abbrev named : List Refusal
  named = bad_number buffers buffer ∷ no_such k.buffers.exists buffer ∷ long ∷ late ∷ []

  abbrev Answers : Option ℤ → Type 0
  Answers v = v ≡ first_refusal (snd_mbf_refusals k buffer msgsz timeout bytes)

  module _ {a : ℤ} (a-is : a ≡ timeout) {r : Bool} (r-is : r ≡ (bad_timeout a).applies) where
    pub send-timeout : r ≡ true → Answers (some E_PAR)
    unfolding snd_mbf_refusals
    send-timeout e = timeout-refused timeout a-is r-is (empty ∷ dirty ∷ named) e

    module _ (fine : r ≡ false) {l : ℤ} (l-is : l ≡ msgsz) where
      after-timeout : {v : Option ℤ} → v ≡ first_refusal (empty ∷ dirty ∷ named) → Answers v
      unfolding snd_mbf_refusals
      after-timeout f = timeout-later timeout a-is r-is (empty ∷ dirty ∷ named) fine f

      pub send-empty : le_z l (pos 0) ≡ true → Answers (some E_PAR)
      send-empty e = after-timeout (refused-here empty (dirty ∷ named) (rw l-is at e))

      module _ (some_bytes : le_z l (pos 0) ≡ false) {d : Bool} (d-is : d ≡ (dirty_tail l bytes).applies) where
        after-empty : {v : Option ℤ} → v ≡ first_refusal (dirty ∷ named) → Answers v
        after-empty f = after-timeout (refused-later empty (dirty ∷ named) (rw l-is at some_bytes) f)

        dirty-is : dirty.applies ≡ d
        dirty-is = sym (rw l-is at d-is)

        pub send-dirty : d ≡ true → Answers (some E_PAR)
        unfolding dirty_tail
        send-dirty e = after-empty (refused-here dirty named (dirty-is ∙ e))

        after-clean : d ≡ false → {v : Option ℤ} → v ≡ first_refusal named → Answers v
        after-clean clean f = after-empty (refused-later dirty named (dirty-is ∙ clean) f)

      module _ (some_bytes : le_z l (pos 0) ≡ false) {d : Bool} (d-is : d ≡ (dirty_tail l bytes).applies) (clean : d ≡ false)
          {x : ℤ} (x-is : x ≡ buffer) {found : code.Option BufferNumber} (from : found ≡ maybe_buffer (field_number x buffers)) where
        made : found ≡ maybe_buffer (field_number buffer buffers)
        made = rw x-is at from

        after_tail : {v : Option ℤ} → v ≡ first_refusal named → Answers v
        after_tail f = after-clean some_bytes d-is clean f

        pub send-numberless : found ≡ None → Answers (some E_ID)
        send-numberless e = after_tail (number-refused buffer_kind buffer made (no_such k.buffers.exists buffer ∷ long ∷ late ∷ []) e)

        module _ {b : BufferNumber} (is-some : found ≡ Some b) {v : ℕ} (v-is : v ≡ k.buffers.exists ! b.0) where
          is-buffer : number buffer ≡ b.0
          is-buffer = (numbered buffer_kind buffer made is-some).1

          pub send-missing : v ≡ 0 → Answers (some E_NOEXS)
          send-missing e = after_tail (missing-refused buffer_kind buffer made k.buffers.exists (long ∷ late ∷ []) is-some v-is e)

          module _ (there : v ≢ 0) {y : ℤ} (y-is : y ≡ msgsz) {n : ℕ} (n-is : n ≡ number y) {m : ℕ} (m-is : m ≡ k.buffers.maxmsz ! b.0) where
            size : n ≡ number msgsz
            size = rw y-is at n-is

            later : {v : Option ℤ} → v ≡ first_refusal (long ∷ late ∷ []) → Answers v
            later e = after_tail (there-later buffer_kind buffer made k.buffers.exists (long ∷ late ∷ []) is-some v-is there e)

            pub send-long : m < n → Answers (some E_PAR)
            send-long h = later (refused-here long (late ∷ []) (rw (is-buffer, ← m-is) (longer m msgsz (rw size at h))))

            module _ (short : n ≤ m) {w : Bool} (w-is : w ≡ send_waits k b.0 n) {u : Bool} (u-is : u ≡ (no_time a w).applies) where
              waits-is : w ≡ send_waits k (number buffer) (number msgsz)
              waits-is = rw (is-buffer, ← size) w-is

              lately : {v : Option ℤ} → v ≡ first_refusal (late ∷ []) → Answers v
              lately f = later (refused-later long (late ∷ []) (rw (is-buffer, ← m-is) (not-longer m msgsz (rw size at short))) f)

              pub send-late : u ≡ true → Answers (some E_TMOUT)
              send-late e = lately (time-refused timeout (send_waits k (number buffer) (number msgsz)) a-is waits-is u-is [] e)

              pub send-allowed : u ≡ false → Answers none
              send-allowed e = lately (time-later timeout (send_waits k (number buffer) (number msgsz)) a-is waits-is u-is [] e refl)

-- ---- each branch

pub hands-over : (caller r : ℕ) (m : List ℕ) {c d : ℤ} {s s' o o' log l1 log' : List ℕ} {at p next : ℕ} → length s ≡ word_count
    → Appends log at (answer_bytes (Code E_OK)) l1 p → c ≡ pos (length m) → d ≡ c → DoesInLog (λ w. end_wait w r d (Message m)) s o l1 p s' o' log' next
    → CarriesInLog caller (sent_over r m) s o log at s' o' log' (record { answer = Code E_OK; next = next })
hands-over caller r m h a c-is d-is e =
    carried-in-log caller (Code E_OK) Nothing (λ w. end_wait w r (pos (length m)) (Message m)) h (answer-alone caller (Code E_OK) a) (rw (d-is, c-is) at e)

pub keeps : (caller b : ℕ) (m : List ℕ) {s s' st st' log l1 : List ℕ} {at p : ℕ} → length s ≡ word_count → Appends log at (answer_bytes (Code E_OK)) l1 p
    → DoesInStore (λ w. store_message w b m) s st s' st'
    → CarriesInStore caller (sent_in b m) s st log at s' st' l1 (record { answer = Code E_OK; next = p })
keeps caller b m h a e = carried-in-store caller (Code E_OK) Nothing (λ w. store_message w b m) h (answer-alone caller (Code E_OK) a) e

pub waits-to-send : (caller b : ℕ) (m : List ℕ) (timeout : ℤ) {n : ℕ} {t : ℤ} {s s' o o' log l1 : List ℕ} {at p : ℕ} → length s ≡ word_count
    → Appends log at (answer_bytes Waits) l1 p → o' ≡ with_outbox_message caller o (take (length m) m) → n ≡ b → t ≡ timeout
    → DoesInWords (λ w. wait w caller (queue sending n) (length m) t) s s'
    → CarriesInLog caller (send_waiting caller b m timeout) s o log at s' o' l1 (record { answer = Waits; next = p })
unfolding with_outbox
waits-to-send caller b m timeout {s = s} {s'} {o} {o'} {l1 = l1} {p = p} h a e n-is t-is d =
    let f : DoesInWords (λ w. wait w caller (queue sending b) (length m) timeout) s s' = rw (n-is, t-is) at d in
    let g : o' ≡ with_outbox_message caller o m = rw (take_all (length m) m (omega arith)) at e in
    carried-in-log caller Waits Nothing (λ w. wait (with_outbox w (with_outbox_message caller w.outbox m)) caller (queue sending b) (length m) timeout) h
    (answer-alone caller Waits a)
    (record {
      does = λ st. does λ k es x. (f.does st o' l1 p).holds k _ (record { state = x.state; store = x.store; outbox = g; log = x.log });
    })

-- ---- the branches together

module _ (caller b : ℕ) (m : List ℕ) (timeout : ℤ) {s st o log s' log' : List ℕ} {at : ℕ} {x : Reply} where
  module _ (nobody : queue_front (kernel s) (queue receiving b) ≡ 0) {r : Bool} (r-is : r ≡ storable (kernel s) b (length m)) where
    pub sends-kept : {st' : List ℕ} → r ≡ true → CarriesInStore caller (sent_in b m) s st log at s' st' log' x
        → Carries caller (λ w. snd_mbf w b m timeout) (areas s st o log) at (areas s' st' o log') x
    sends-kept e f = carries-as caller (send-stored (lent_world (areas s st o log)) b m timeout nobody (sym r-is ∙ e)) (f.carries o)

    pub sends-waiting : {o' : List ℕ} {t : ℤ} → r ≡ false → caller ≡ running (kernel s) → t ≡ timeout
        → CarriesInLog caller (send_waiting caller b m t) s o log at s' o' log' x
        → Carries caller (λ w. snd_mbf w b m timeout) (areas s st o log) at (areas s' st o' log') x
    sends-waiting {t = t} e runs t-is f =
        carries-as caller
        (send-waits (lent_world (areas s st o log)) b m timeout nobody (sym r-is ∙ e) ∙ rw (runs, t-is)) (f.carries st)

  pub sends-over : {n : ℕ} {found : code.Option TaskNumber} {r : TaskNumber} {o' : List ℕ} → n ≡ b → found ≡ maybe_task (queue_front (kernel s) (queue receiving n))
      → found ≡ Some r → CarriesInLog caller (sent_over r.0 m) s o log at s' o' log' x
      → Carries caller (λ w. snd_mbf w b m timeout) (areas s st o log) at (areas s' st o' log') x
  sends-over n-is from e f =
      let q = rw n-is at (task-is _ _ (sym from ∙ e)) in
      carries-as caller (send-over (lent_world (areas s st o log)) b m timeout (sym q.0) (rw (← q.0) at q.1)) (f.carries st)

pub nobody-receives : (s : List ℕ) {b n : ℕ} {found : code.Option TaskNumber} → n ≡ b → found ≡ maybe_task (queue_front (kernel s) (queue receiving n)) → found ≡ None
    → queue_front (kernel s) (queue receiving b) ≡ 0
nobody-receives s n-is from e = rw n-is at (task-is-none _ (sym from ∙ e))

-- ---- "Only the first msgsz of the 32 bytes count"

-- as many as are handed over, where they are enough
pub counts-handed : (n : ℕ) (bytes : List ℕ) → n ≤ length bytes → n ≤ message_bytes → take n bytes ≡ take n (handed bytes)
unfolding handed
counts-handed n bytes h l = sym (take-take n message_bytes (bytes ++ zeros message_bytes) l ∙ take-append-le n bytes (zeros message_bytes) h)

-- and with zeros behind them
module _ (bytes : List ℕ) {n p : ℕ} {filled : List ℕ} (few : length bytes < n) (l : n ≤ message_bytes) (a : Appends (zeros message_bytes) 0 bytes filled p) where
  pub filled-handed : filled ≡ handed bytes
  unfolding handed
  filled-handed =
      a.area ∙ ap (placed (zeros message_bytes) 0) (sym (take_all message_bytes bytes (omega arith))) ∙ padded-placed message_bytes bytes

  pub filled-part : n ≡ length (take n filled)
  unfolding handed
  filled-part = let e = length-padded message_bytes bytes in simp length-take (rw filled-handed (omega arith))

pub counts-part : (n : ℕ) (bytes : List ℕ) → n ≤ length bytes → n ≡ length (take n bytes)
counts-part n bytes h = simp length-take (omega arith)

-- no more than a message has
pub counts-short : (n : ℕ) (bytes : List ℕ) → n ≤ message_bytes → length (take n bytes) ≤ message_bytes
counts-short n bytes h = simp length-take (omega arith)

pub counts : (msgsz : ℤ) (bytes : List ℕ) {y : ℤ} {l n : ℕ} → y ≡ msgsz → l ≡ number y → n ≡ min l message_bytes
    → take n (handed bytes) ≡ take (number msgsz) (handed bytes)
unfolding handed
counts msgsz bytes y-is l-is n-is =
    rw (n-is, l-is, y-is)
    (take-least (number msgsz) message_bytes (handed bytes)
    ∙ ap (take (number msgsz)) (take-take message_bytes message_bytes (bytes ++ zeros message_bytes) (omega arith)))

-- ---- the call

pub sends-as : (b : ℕ) (m : List ℕ) (timeout : ℤ) {m' : List ℕ} {t : ℤ} → m' ≡ m → t ≡ timeout
    → {caller : ℕ} {a c : Areas} {at : ℕ} {y : Reply} → Carries caller (λ w. snd_mbf w b m' t) a at c y → Carries caller (λ w. snd_mbf w b m timeout) a at c y
sends-as b m timeout m-is t-is f = rw (← t-is, ← m-is) f

module _ (buffer : ℤ) {x : ℤ} (x-is : x ≡ buffer) {found : code.Option BufferNumber} (from : found ≡ maybe_buffer (field_number x buffers)) where
  pub send-named : (k : Kernel) (msgsz timeout : ℤ) (bytes : List ℕ) → first_refusal (snd_mbf_refusals k buffer msgsz timeout bytes) ≡ none → found ≡ None → ⊥
  unfolding snd_mbf_refusals bad_number
  send-named k msgsz timeout bytes e g = never-unnumbered buffer_kind buffer (rw x-is at from) (snd_mbf_refusals k buffer msgsz timeout bytes) 3 e refl g

  pub sends : {b : BufferNumber} → found ≡ Some b → (m : List ℕ) (timeout : ℤ) {m' : List ℕ} {t : ℤ} → m' ≡ m → t ≡ timeout
      → {caller : ℕ} {a c : Areas} {at : ℕ} {y : Reply} → Carries caller (λ w. snd_mbf w b.0 m' t) a at c y
      → Carries caller (λ w. snd_mbf w (number buffer) m timeout) a at c y
  sends {b} is-some m timeout m-is t-is f = rw (numbered buffer_kind buffer (rw x-is at from) is-some).1 (sends-as b.0 m timeout m-is t-is f)
