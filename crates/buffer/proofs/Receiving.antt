-- rcv_mbf, in the order of the code's steps.
use Rattle.std.proofs.Math.Option.{some, Option}
use Rattle.std.specs.Prelude as code
use Rattle.std.specs.Prelude.{None, Some}
use Rattle.model.proofs.Terms.{ℕ, ◌≤◌, arith, ◌≡◌, ◌∙◌, refl, sym, ◌≢◌, Bool, true, false, none, List, [], ◌∷◌, length, length-take, ℤ, pos, eq-eqb, ne_eqb, buffers, message_bytes, ◌!◌, E_OK, E_PAR, E_ID, E_NOEXS, E_TMOUT, number, sending, receiving, queue, Kernel, queue_front, running, World, Nothing, Message, oldest_length, oldest, part, region, outbox_message, wait, end_wait, senders_message, bad_timeout, bad_number, no_such, no_time, receive_waits, rcv_mbf_refusals, Refusal, first_refusal, take_oldest, rcv_mbf, kernel, word_count, answer_bytes, delivery_bytes, Areas}
use Rattle.model.specs.Number.{field_number, maybe_task, maybe_buffer, BufferNumber, TaskNumber}
use Rattle.model.specs.declared.call.Answer.{Answer}
use Rattle.model.specs.declared.call.Answer.TheVariants.{Code, Waits}
use Rattle.model.proofs.NumberLaws.{buffer_kind, task-is, task-is-none}
use Rattle.script.specs.Place.{Appends}
use Rattle.script.proofs.Appending.{wrote, wrote-more}
use Rattle.act.specs.Held.{areas, DoesInWords, DoesInStore, DoesInLog}
use Rattle.reply.specs.declared.Reply.{Reply}
use Rattle.reply.specs.Replies.{lent_world, Carries, CarriesInWords, CarriesInStore, CarriesInLog}
use Rattle.reply.proofs.Refusing.{numbered, never-unnumbered, number-refused, missing-refused, there-later}
use Rattle.reply.proofs.Replying.{answer-alone, carried-in-words, carried-in-store, carried-in-log, carries-as, in-log-as}
use Rattle.reply.proofs.Conditions.{timeout-refused, timeout-later, time-refused, time-later}
use Rattle.buffer.specs.Branches.{received_stored, received_sent, receive_waiting}
use Rattle.buffer.specs.Stored.{Answerable}

-- ---- whether it would wait

module _ (k : Kernel) (b : ℕ) {u : ℕ} (u-is : u ≡ k.buffers.used ! b) where
  pub waits-stored : u ≢ 0 → false ≡ receive_waits k b
  unfolding receive_waits
  waits-stored d = rw (← u-is, ne_eqb u 0 d)

  module _ (empty : u ≡ 0) {n : ℕ} (n-is : n ≡ b) {found : code.Option TaskNumber} (from : found ≡ maybe_task (queue_front k (queue sending n))) where
    pub waits-sent : {t : TaskNumber} → found ≡ Some t → false ≡ receive_waits k b
    unfolding receive_waits
    waits-sent e = rw (← u-is, empty, ne_eqb (queue_front k (queue sending b)) 0 (rw n-is at (task-is _ _ (sym from ∙ e)).1))

    pub waits-nobody : found ≡ None → true ≡ receive_waits k b
    unfolding receive_waits
    waits-nobody e = rw (← u-is, empty, eq-eqb (queue_front k (queue sending b)) 0 (rw n-is at (task-is-none _ (sym from ∙ e))))

-- ---- the first refusal

module _ (k : Kernel) (buffer timeout : ℤ) where
  abbrev late : Refusal
  late = no_time timeout (receive_waits k (number buffer))

  abbrev named : List Refusal
  named = bad_number buffers buffer ∷ no_such k.buffers.exists buffer ∷ late ∷ []

  abbrev Answers : Option ℤ → Type 0
  Answers v = v ≡ first_refusal (rcv_mbf_refusals k buffer timeout)

  module _ {a : ℤ} (a-is : a ≡ timeout) {r : Bool} (r-is : r ≡ (bad_timeout a).applies) where
    pub receive-timeout : r ≡ true → Answers (some E_PAR)
    unfolding rcv_mbf_refusals
    receive-timeout e = timeout-refused timeout a-is r-is named e

    module _ (fine : r ≡ false) {x : ℤ} (x-is : x ≡ buffer) {found : code.Option BufferNumber} (from : found ≡ maybe_buffer (field_number x buffers)) where
      made : found ≡ maybe_buffer (field_number buffer buffers)
      made = rw x-is at from

      after-timeout : {v : Option ℤ} → v ≡ first_refusal named → Answers v
      unfolding rcv_mbf_refusals
      after-timeout f = timeout-later timeout a-is r-is named fine f

      pub receive-numberless : found ≡ None → Answers (some E_ID)
      receive-numberless e = after-timeout (number-refused buffer_kind buffer made (no_such k.buffers.exists buffer ∷ late ∷ []) e)

      module _ {b : BufferNumber} (is-some : found ≡ Some b) {v : ℕ} (v-is : v ≡ k.buffers.exists ! b.0) where
        pub receive-missing : v ≡ 0 → Answers (some E_NOEXS)
        receive-missing e = after-timeout (missing-refused buffer_kind buffer made k.buffers.exists (late ∷ []) is-some v-is e)

        module _ (there : v ≢ 0) {w : Bool} (w-is : w ≡ receive_waits k b.0) {u : Bool} (u-is : u ≡ (no_time a w).applies) where
          waits-is : w ≡ receive_waits k (number buffer)
          waits-is = rw (numbered buffer_kind buffer made is-some).1 w-is

          lately : {v : Option ℤ} → v ≡ first_refusal (late ∷ []) → Answers v
          lately f = after-timeout (there-later buffer_kind buffer made k.buffers.exists (late ∷ []) is-some v-is there f)

          pub receive-late : u ≡ true → Answers (some E_TMOUT)
          receive-late e = lately (time-refused timeout (receive_waits k (number buffer)) a-is waits-is u-is [] e)

          pub receive-allowed : u ≡ false → Answers none
          receive-allowed e = lately (time-later timeout (receive_waits k (number buffer)) a-is waits-is u-is [] e refl)

-- ---- what it does, by case

module _ (w : World) (b : ℕ) (timeout : ℤ) where
  receive-oldest : w.kernel.buffers.used ! b ≢ 0 → rcv_mbf w b timeout ≡ received_stored b w
  unfolding rcv_mbf
  receive-oldest d = rw (ne_eqb _ 0 d)

  module _ (empty : w.kernel.buffers.used ! b ≡ 0) where
    receive-first : {s : ℕ} → queue_front w.kernel (queue sending b) ≡ s → s ≢ 0 → rcv_mbf w b timeout ≡ received_sent s w
    unfolding rcv_mbf
    receive-first e d = rw (empty, e, ne_eqb _ 0 d)

    receive-nothing : queue_front w.kernel (queue sending b) ≡ 0 → rcv_mbf w b timeout ≡ receive_waiting (running w.kernel) b timeout w
    unfolding rcv_mbf
    receive-nothing e = rw (empty, e)

-- ---- each branch

pub takes-stored : (caller b : ℕ) {s s' st st' log l1 l2 : List ℕ} {at p next n : ℕ} {got : Answer} {m : List ℕ} → length s ≡ word_count
    → n ≡ oldest_length (region b st) → got ≡ Code (pos n) → Appends log at (answer_bytes got) l1 p → m ≡ oldest (region b st)
    → Appends l1 p (delivery_bytes caller (Message m)) l2 next → DoesInStore (λ w. take_oldest w b) s st s' st'
    → CarriesInStore caller (received_stored b) s st log at s' st' l2 (record { answer = got; next = next })
takes-stored caller b {st = st} h n-is got-is a m-is d e =
    let x = pos (oldest_length (region b st)) in
    let y = oldest (region b st) in
    let f = rw n-is at got-is in
    let g = carried-in-store caller (Code x) (Message y) (λ w. take_oldest w b) h (wrote-more (wrote (rw f at a)) (wrote (rw m-is at d))) e in
    record { carries = λ o. rw f (carries-as caller refl (g.carries o)) }

-- no more lies in the outbox than a message has
pub sent-short : (t n : ℕ) (o : List ℕ) {m : List ℕ} → m ≡ outbox_message t n o → length m ≤ message_bytes
unfolding outbox_message part
sent-short t n o e = rw e (simp length-take (omega arith))

pub takes-sent : (caller t : ℕ) {s s' o o' log l1 l2 log' : List ℕ} {at p q next n : ℕ} {got : Answer} {m : List ℕ} → length s ≡ word_count
    → n ≡ (kernel s).tasks.argument ! t → m ≡ outbox_message t n o → got ≡ Code (pos (length m)) → Appends log at (answer_bytes got) l1 p
    → Appends l1 p (delivery_bytes caller (Message m)) l2 q → DoesInLog (λ w. end_wait w t E_OK Nothing) s o l2 q s' o' log' next
    → CarriesInLog caller (received_sent t) s o log at s' o' log' (record { answer = got; next = next })
unfolding senders_message
takes-sent caller t {s} {o = o} h n-is m-is got-is a d e =
    let y = outbox_message t ((kernel s).tasks.argument ! t) o in
    let g = rw n-is at m-is in
    let f = rw g at got-is in
    rw f
    (in-log-as caller (λ st. refl)
    (carried-in-log caller (Code (pos (length y))) (Message y) (λ w. end_wait w t E_OK Nothing) h (wrote-more (wrote (rw f at a)) (wrote (rw g at d))) e))

pub waits-to-receive : (caller b : ℕ) (timeout : ℤ) {n : ℕ} {t : ℤ} {s s' log l1 : List ℕ} {at p : ℕ} → length s ≡ word_count
    → Appends log at (answer_bytes Waits) l1 p → n ≡ b → t ≡ timeout → DoesInWords (λ w. wait w caller (queue receiving n) 0 t) s s'
    → CarriesInWords caller (receive_waiting caller b timeout) s log at s' l1 (record { answer = Waits; next = p })
waits-to-receive caller b timeout h a n-is t-is d =
    carried-in-words caller Waits Nothing (λ w. wait w caller (queue receiving b) 0 timeout) h (answer-alone caller Waits a) (rw (n-is, t-is) at d)

-- ---- the branches together

module _ (caller b : ℕ) (timeout : ℤ) {s st o log s' log' : List ℕ} {at : ℕ} {x : Reply} {u : ℕ} (u-is : u ≡ (kernel s).buffers.used ! b) where
  pub receives-stored : {st' : List ℕ} → u ≢ 0
      → CarriesInStore caller (received_stored b) s st log at s' st' log' x
      → Carries caller (λ w. rcv_mbf w b timeout) (areas s st o log) at (areas s' st' o log') x
  receives-stored d f = carries-as caller (receive-oldest (lent_world (areas s st o log)) b timeout (λ q. d (u-is ∙ q))) (f.carries o)

  module _ (empty : u ≡ 0) {n : ℕ} (n-is : n ≡ b) {found : code.Option TaskNumber} (from : found ≡ maybe_task (queue_front (kernel s) (queue sending n))) where
    pub receives-sent : {t : TaskNumber} {o' : List ℕ} → found ≡ Some t
        → CarriesInLog caller (received_sent t.0) s o log at s' o' log' x
        → Carries caller (λ w. rcv_mbf w b timeout) (areas s st o log) at (areas s' st o' log') x
    receives-sent e f =
        let q = rw n-is at (task-is _ _ (sym from ∙ e)) in
        carries-as caller (receive-first (lent_world (areas s st o log)) b timeout (sym u-is ∙ empty) (sym q.0) (rw (← q.0) at q.1)) (f.carries st)

    pub receives-nothing : found ≡ None → caller ≡ running (kernel s) → {t : ℤ} → t ≡ timeout
        → CarriesInWords caller (receive_waiting caller b t) s log at s' log' x
        → Carries caller (λ w. rcv_mbf w b timeout) (areas s st o log) at (areas s' st o log') x
    receives-nothing e runs {t} t-is f =
        carries-as caller
        (receive-nothing (lent_world (areas s st o log)) b timeout (sym u-is ∙ empty) (rw n-is at (task-is-none _ (sym from ∙ e))) ∙ rw (runs, t-is))
        (f.carries st o)

module _ (buffer : ℤ) {x : ℤ} (x-is : x ≡ buffer) {found : code.Option BufferNumber} (from : found ≡ maybe_buffer (field_number x buffers)) where
  pub receive-named : (k : Kernel) (timeout : ℤ) → first_refusal (rcv_mbf_refusals k buffer timeout) ≡ none → found ≡ None → ⊥
  unfolding rcv_mbf_refusals bad_number
  receive-named k timeout e g = never-unnumbered buffer_kind buffer (rw x-is at from) (rcv_mbf_refusals k buffer timeout) 1 e refl g

  module _ {b : BufferNumber} (is-some : found ≡ Some b) where
    is-buffer : number buffer ≡ b.0
    is-buffer = (numbered buffer_kind buffer (rw x-is at from) is-some).1

    pub receive-answerable : {st : List ℕ} → Answerable (number buffer) st → Answerable b.0 st
    receive-answerable a = rw is-buffer at a

    pub receives : {caller : ℕ} {a c : Areas} {at : ℕ} {y : Reply} (timeout : ℤ) {t : ℤ} → t ≡ timeout → Carries caller (λ w. rcv_mbf w b.0 t) a at c y
        → Carries caller (λ w. rcv_mbf w (number buffer) timeout) a at c y
    receives timeout t-is f = rw (is-buffer, ← t-is) f
