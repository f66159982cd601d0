-- 01, "On both sides of the mark": every bullet that has a [P], whole, and beside them a case for sentences that no bullet holds, and both sides of 02's requests Two, Five and Nine, as
-- one table under one statement, proved by computing; and the numbers of request Nine and the bits of request Three, tables of their own.
use Rattle.std.specs.Prelude.{ℕ, suc, pred, ◌+◌, ◌-◌, ◌^◌, ◌≡◌, false, not, get_or, ℤ, pos, eqb}
use mathlib.Core.List.{List, [], ◌∷◌, ◌++◌, map, foldl}
use Rattle.model.specs.declared.call.Call.{Call}
use Rattle.model.specs.declared.call.Call.TheVariants.{CreTsk, StaTsk, ExtTsk, ChgPri, CreMtx, LocMtx, UnlMtx, CreMbf, DelMbf, SndMbf, RcvMbf, CreMpf, GetMpf, RelMpf, Tick}
use Rattle.model.specs.declared.call.Answer.{Answer}
use Rattle.model.specs.declared.call.Answer.TheVariants.{Code, Waits}
use Rattle.model.specs.Sizes.{message_bytes, store_bytes, outbox_bytes}
use Rattle.model.specs.Lists.{◌!◌, count_from, up_to, zeros}
use Rattle.model.specs.Bits.{with_bit}
use Rattle.model.specs.Code.{minus, E_OK, E_SYS, E_PAR, E_NOEXS, E_ILUSE, E_TMOUT, E_DLT, saturated, number}
use Rattle.model.specs.Facts.{queue, locking}
use Rattle.model.specs.Kernel.{with_bitmap, fresh}
use Rattle.model.specs.World.{Lent, Delivery, Nothing, Message, Block, queue_front, running}
use Rattle.model.specs.Message.{part, room}
use Rattle.model.specs.Record.{fields_of}
use Rattle.model.specs.Valid.{valid}
use Rattle.model.specs.Step.{Outcome, step, fresh_lent}

-- What is seen of a run: each call's answer, the ended waits with their codes, what was delivered to whom, and numbers of what is lent at
-- the end.
pub record Seen : Type 0 where
  pub answers : List Answer
  pub ended : List (ℕ × ℤ)
  pub delivered : List (ℕ × Delivery)
  pub numbers : List ℕ

-- A case: calls from the fresh state, the areas' lengths, the bytes that are handed over with a call, and what must be seen; `watched` says which
-- numbers of what is lent.
pub record Case : Type 0 where
  pub calls : List Call
  pub store : ℕ
  pub outbox : ℕ
  pub bytes : Call → List ℕ
  pub watched : List (Lent → ℕ)
  pub seen : Seen

abbrev pub delivered_to : ℕ → Delivery → List (ℕ × Delivery)
delivered_to t Nothing = []
delivered_to t (Message m) = (t, Message m) ∷ []
delivered_to t (Block b) = (t, Block b) ∷ []

-- what an outcome delivers, first to the caller
abbrev pub deliveries : ℕ → Outcome → List (ℕ × Delivery)
deliveries caller o = foldl (λ ds e. ds ++ delivered_to e.task e.delivery) (delivered_to caller o.delivery) o.ended

abbrev pub happens : (Call → List ℕ) → List (Lent → ℕ) → Lent → List Call → Seen
happens bytes watched x [] = record { answers = []; ended = []; delivered = []; numbers = map (λ f. f x) watched }
happens bytes watched x (c ∷ cs) =
    let o = step x c (bytes c) in
    let s = happens bytes watched o.lent cs in
    record {
      answers = o.answer ∷ s.answers;
      ended = map (λ e. (e.task, e.code)) o.ended ++ s.ended;
      delivered = deliveries (running x.kernel) o ++ s.delivered;
      numbers = s.numbers;
    }

unfoldable pub observed : Case → Seen
observed c = happens c.bytes c.watched (record { kernel = fresh; store = zeros c.store; outbox = zeros c.outbox }) c.calls

abbrev pub seen : List Answer → List (ℕ × ℤ) → List (ℕ × Delivery) → List ℕ → Seen
seen answers ended delivered numbers = record { answers = answers; ended = ended; delivered = delivered; numbers = numbers }

abbrev pub case_with : (Call → List ℕ) → List Call → List (Lent → ℕ) → Seen → Case
case_with bytes calls watched s =
    record { calls = calls; store = store_bytes; outbox = outbox_bytes; bytes = bytes; watched = watched; seen = s }

-- each send carries the bytes 1 to msgsz, which is its second field, and zeros behind them; bytes of other calls do not count
abbrev pub sent_bytes : Call → List ℕ
sent_bytes c = up_to (number (get_or (fields_of c) 1 (pos 0)))

abbrev pub case : List Call → List (Lent → ℕ) → Seen → Case
case = case_with sent_bytes

abbrev pub current : ℕ → Lent → ℕ
current t x = x.kernel.tasks.current ! t

abbrev pub used : ℕ → Lent → ℕ
used b x = x.kernel.buffers.used ! b

abbrev pub ceiling_of : ℕ → Lent → ℕ
ceiling_of m x = x.kernel.mutexes.ceiling ! m

-- a byte of the store, and a byte of a task's part of the outbox, counted from 0
abbrev pub store_byte : ℕ → Lent → ℕ
store_byte i x = x.store ! i

abbrev pub outbox_byte : ℕ → ℕ → Lent → ℕ
outbox_byte t i x = part message_bytes t x.outbox ! i

-- the message of n bytes that a send carries
abbrev pub message : ℕ → Delivery
message n = Message (up_to n)

-- no timeout, and answers
abbrev pub forever : ℤ
forever = minus 1

abbrev pub OK : Answer
OK = Code E_OK

abbrev pub new : ℕ → Answer
new n = Code (pos n)

-- ---- messages

-- "msgsz -1, 0: -17."
unfoldable pub no_message : Case
no_message =
    case_with (λ c. up_to message_bytes)
    (CreMbf (pos 0) (pos 256) (pos 32) ∷ SndMbf (pos 1) (minus 1) forever ∷ SndMbf (pos 1) (pos 0) forever ∷ [])
    (used 1 ∷ []) (seen (new 1 ∷ Code E_PAR ∷ Code E_PAR ∷ []) [] [] (0 ∷ []))

-- "1 stored at cost 8."
unfoldable pub one_byte : Case
one_byte =
    case (CreMbf (pos 0) (pos 256) (pos 32) ∷ SndMbf (pos 1) (pos 1) forever ∷ [])
    (used 1 ∷ []) (seen (new 1 ∷ OK ∷ []) [] [] (8 ∷ []))

-- "32 costs 36: bufsz 256 takes seven, the eighth waits."
abbrev send32 : Call
send32 = SndMbf (pos 1) (pos 32) forever

unfoldable pub eighth_waits : Case
eighth_waits =
    case
    (CreMbf (pos 0) (pos 256) (pos 32)
    ∷ send32 ∷ send32 ∷ send32 ∷ send32 ∷ send32 ∷ send32 ∷ send32 ∷ send32 ∷ [])
    (used 1 ∷ []) (seen (new 1 ∷ OK ∷ OK ∷ OK ∷ OK ∷ OK ∷ OK ∷ OK ∷ Waits ∷ []) [] [] (252 ∷ []))

-- a task of less urgency than task 1, which runs whenever task 1 waits
abbrev second : List Call
second = CreTsk (pos 9) ∷ StaTsk (pos 2) ∷ []

-- "bufsz 35, 32 bytes: waits until a receiver comes."
unfoldable pub too_small : Case
too_small =
    case (second ++ CreMbf (pos 0) (pos 35) (pos 32) ∷ send32 ∷ RcvMbf (pos 1) forever ∷ [])
    (used 1 ∷ []) (seen (new 2 ∷ OK ∷ new 1 ∷ Waits ∷ new 32 ∷ []) ((1, E_OK) ∷ []) ((2, message 32) ∷ []) (0 ∷ []))

-- "bufsz 36: stored." "packed: length (4 bytes), bytes, zeros"
unfoldable pub just_fits : Case
just_fits =
    case (CreMbf (pos 0) (pos 36) (pos 32) ∷ send32 ∷ [])
    (used 1 ∷ store_byte 0 ∷ store_byte 1 ∷ store_byte 3 ∷ store_byte 4 ∷ store_byte 5 ∷ store_byte 35 ∷ [])
    (seen (new 1 ∷ OK ∷ []) [] [] (36 ∷ 32 ∷ 0 ∷ 0 ∷ 1 ∷ 2 ∷ 32 ∷ []))

-- "Receive: the oldest stored message"
unfoldable pub oldest_first : Case
oldest_first =
    case
    (CreMbf (pos 0) (pos 256) (pos 32) ∷ SndMbf (pos 1) (pos 5) forever ∷ SndMbf (pos 1) (pos 2) forever ∷ RcvMbf (pos 1) forever ∷ [])
    (used 1 ∷ store_byte 0 ∷ store_byte 4 ∷ store_byte 5 ∷ store_byte 6 ∷ store_byte 8 ∷ [])
    (seen (new 1 ∷ OK ∷ OK ∷ new 5 ∷ []) [] ((1, message 5) ∷ []) (8 ∷ 2 ∷ 1 ∷ 2 ∷ 0 ∷ 0 ∷ []))

-- "bufsz 0: always handed over": to a receiver that comes, and to one that waits
unfoldable pub handed_over : Case
handed_over =
    case
    (second ++ CreMbf (pos 0) (pos 0) (pos 32) ∷ SndMbf (pos 1) (pos 1) forever ∷ RcvMbf (pos 1) forever
    ∷ RcvMbf (pos 1) forever ∷ SndMbf (pos 1) (pos 3) forever ∷ [])
    (used 1 ∷ [])
    (seen (new 2 ∷ OK ∷ new 1 ∷ Waits ∷ new 1 ∷ Waits ∷ OK ∷ []) ((1, E_OK) ∷ (1, pos 3) ∷ []) ((2, message 1) ∷ (1, message 3) ∷ []) (0 ∷ []))

-- "Only the first msgsz of the 32 bytes count": with five bytes handed over the others are zeros
unfoldable pub few_bytes : Case
few_bytes =
    case_with (λ c. up_to 5) (CreMbf (pos 0) (pos 256) (pos 32) ∷ SndMbf (pos 1) (pos 7) forever ∷ RcvMbf (pos 1) forever ∷ [])
    (used 1 ∷ []) (seen (new 1 ∷ OK ∷ new 7 ∷ []) [] ((1, Message (up_to 5 ++ 0 ∷ 0 ∷ [])) ∷ []) (0 ∷ []))

-- "maxmsz 32 taken, 33: -17."
unfoldable pub longest_message : Case
longest_message =
    case (CreMbf (pos 0) (pos 256) (pos 32) ∷ CreMbf (pos 0) (pos 256) (pos 33) ∷ [])
    [] (seen (new 1 ∷ Code E_PAR ∷ []) [] [] [])

-- "Timeout -1 waits, -2: -17": task 1 receives, task 2 locks, task 3 gets and task 4 sends, each first with -2 and then with -1
unfoldable pub timeouts : Case
timeouts =
    case
    (second ++ CreTsk (pos 10) ∷ StaTsk (pos 3) ∷ CreTsk (pos 11) ∷ StaTsk (pos 4) ∷ CreMbf (pos 0) (pos 0) (pos 1) ∷ CreMbf (pos 0) (pos 0) (pos 1)
    ∷ CreMtx (pos 0) (pos 0) ∷ LocMtx (pos 1) forever ∷ CreMpf (pos 0) (pos 1) (pos 1) ∷ GetMpf (pos 1) forever
    ∷ RcvMbf (pos 1) (minus 2) ∷ RcvMbf (pos 1) (minus 1) ∷ LocMtx (pos 1) (minus 2) ∷ LocMtx (pos 1) (minus 1)
    ∷ GetMpf (pos 1) (minus 2) ∷ GetMpf (pos 1) (minus 1) ∷ SndMbf (pos 2) (pos 1) (minus 2) ∷ SndMbf (pos 2) (pos 1) (minus 1) ∷ [])
    []
    (seen
    (new 2 ∷ OK ∷ new 3 ∷ OK ∷ new 4 ∷ OK ∷ new 1 ∷ new 2 ∷ new 1 ∷ OK ∷ new 1 ∷ OK ∷ Code E_PAR ∷ Waits ∷ Code E_PAR ∷ Waits
    ∷ Code E_PAR ∷ Waits ∷ Code E_PAR ∷ Waits ∷ [])
    [] ((1, Block 1) ∷ []) [])

-- "Ceiling 16 taken, 17: -17, but with attributes 0 to 2 any ceiling is ignored and kept as 0."
unfoldable pub ceilings : Case
ceilings =
    case
    (CreMtx (pos 3) (pos 16) ∷ CreMtx (pos 3) (pos 17) ∷ CreMtx (pos 0) (pos 5) ∷ CreMtx (pos 1) (pos 17) ∷ CreMtx (pos 2) (minus 1) ∷ [])
    (ceiling_of 1 ∷ ceiling_of 2 ∷ ceiling_of 3 ∷ ceiling_of 4 ∷ [])
    (seen (new 1 ∷ Code E_PAR ∷ new 2 ∷ new 3 ∷ new 4 ∷ []) [] [] (16 ∷ 0 ∷ 0 ∷ 0 ∷ []))

-- "Buffer attribute 0, free 20; A waits with 28 bytes, then B sends 4 without a timeout: B waits too." A is task 1, B task 2. "A waiting sender's
-- bytes lie at the start of its part of the bay. All other bytes are zero."
unfoldable pub no_passing : Case
no_passing =
    case
    (second ++ CreMbf (pos 0) (pos 56) (pos 32) ∷ send32 ∷ SndMbf (pos 1) (pos 28) forever ∷ SndMbf (pos 1) (pos 4) forever ∷ [])
    (used 1 ∷ outbox_byte 1 0 ∷ outbox_byte 1 27 ∷ outbox_byte 1 28 ∷ outbox_byte 2 0 ∷ outbox_byte 2 3 ∷ outbox_byte 2 4 ∷ [])
    (seen (new 2 ∷ OK ∷ new 1 ∷ OK ∷ Waits ∷ Waits ∷ []) [] [] (36 ∷ 1 ∷ 28 ∷ 0 ∷ 1 ∷ 4 ∷ 0 ∷ []))

-- "Last in each call, buffers 1 to 4": task 1's second message waits at the last buffer until task 2 has received the first
unfoldable pub last_drained : Case
last_drained =
    case
    (second ++ CreMbf (pos 0) (pos 0) (pos 1) ∷ CreMbf (pos 0) (pos 0) (pos 1) ∷ CreMbf (pos 0) (pos 0) (pos 1) ∷ CreMbf (pos 0) (pos 36) (pos 32)
    ∷ SndMbf (pos 4) (pos 32) forever ∷ SndMbf (pos 4) (pos 7) forever ∷ RcvMbf (pos 4) forever ∷ [])
    (used 4 ∷ outbox_byte 1 0 ∷ [])
    (seen (new 2 ∷ OK ∷ new 1 ∷ new 2 ∷ new 3 ∷ new 4 ∷ OK ∷ Waits ∷ new 32 ∷ []) ((1, E_OK) ∷ []) ((2, message 32) ∷ []) (12 ∷ 0 ∷ []))

-- "Deletions: waits there end with -51 E_DLT": of a sender, whose bytes leave the sending bay
unfoldable pub sender_deleted : Case
sender_deleted =
    case (second ++ CreMbf (pos 0) (pos 0) (pos 32) ∷ SndMbf (pos 1) (pos 7) forever ∷ DelMbf (pos 1) ∷ [])
    (outbox_byte 1 0 ∷ []) (seen (new 2 ∷ OK ∷ new 1 ∷ Waits ∷ OK ∷ []) ((1, E_DLT) ∷ []) [] (0 ∷ []))

-- ---- 02, request Two: "snd_mbf with msgsz 1 to 32 and a nonzero byte after the first msgsz of its 32 becomes -17, in order 4"

-- Buffer 1 is made. With these bytes a message of msgsz is sent to a buffer; its answer is seen, and what is used of buffer 1 then.
abbrev send_of : List ℕ → ℕ → ℕ → Answer → ℕ → Case
send_of bytes buffer msgsz answer n =
    case_with (λ c. bytes) (CreMbf (pos 0) (pos 256) (pos 32) ∷ SndMbf (pos buffer) (pos msgsz) forever ∷ [])
    (used 1 ∷ []) (seen (new 1 ∷ answer ∷ []) [] [] (n ∷ []))

-- msgsz 1: the second byte, the last of the 32
unfoldable pub next_dirty : Case
next_dirty = send_of (7 ∷ 7 ∷ []) 1 1 (Code E_PAR) 0

unfoldable pub last_dirty : Case
last_dirty = send_of (7 ∷ zeros 30 ++ 7 ∷ []) 1 1 (Code E_PAR) 0

-- msgsz 31: one byte is behind it
unfoldable pub dirty_behind31 : Case
dirty_behind31 = send_of (up_to 32) 1 31 (Code E_PAR) 0

-- zeros behind the message; none behind it; one that is not among the 32
unfoldable pub clean_tail : Case
clean_tail = send_of (7 ∷ zeros 31) 1 1 OK 8

unfoldable pub no_tail : Case
no_tail = send_of (up_to 32) 1 32 OK 36

unfoldable pub beyond_message : Case
beyond_message = send_of (7 ∷ zeros 31 ++ 7 ∷ []) 1 1 OK 8

-- "msgsz > maxmsz" in order 7, whatever the bytes: order 4 does not apply, as is seen where the buffer is missing
unfoldable pub too_long : Case
too_long = send_of (up_to 32) 1 33 (Code E_PAR) 0

unfoldable pub too_long_clean : Case
too_long_clean = send_of [] 1 33 (Code E_PAR) 0

unfoldable pub too_long_missing : Case
too_long_missing = send_of (up_to 32) 2 33 (Code E_NOEXS) 0

-- orders 5 and 6 come later
unfoldable pub dirty_missing : Case
dirty_missing = send_of (7 ∷ 7 ∷ []) 2 1 (Code E_PAR) 0

unfoldable pub dirty_numberless : Case
dirty_numberless = send_of (7 ∷ 7 ∷ []) 5 1 (Code E_PAR) 0

-- ---- 02, request Nine: "how many bytes are over, or lacking (below zero), as one signed number, zero for an exact fit"

-- bufsz, the bytes used, the length of a message; its room
abbrev pub rooms : List (ℕ × ℕ × ℕ × ℤ)
rooms =
    (0, 0, 1, minus 8) ∷ (0, 0, 4, minus 8) ∷ (0, 0, 5, minus 12) ∷ (0, 0, 32, minus 36)
    ∷ (7, 0, 4, minus 1) ∷ (8, 0, 4, pos 0) ∷ (9, 0, 4, pos 1)
    ∷ (11, 0, 5, minus 1) ∷ (12, 0, 5, pos 0) ∷ (13, 0, 5, pos 1)
    ∷ (31, 0, 28, minus 1) ∷ (32, 0, 28, pos 0) ∷ (33, 0, 28, pos 1)
    ∷ (35, 0, 28, pos 3) ∷ (35, 0, 29, minus 1) ∷ (35, 0, 32, minus 1)
    ∷ (36, 0, 28, pos 4) ∷ (36, 0, 29, pos 0) ∷ (36, 0, 32, pos 0)
    ∷ (37, 0, 28, pos 5) ∷ (37, 0, 29, pos 1) ∷ (37, 0, 32, pos 1)
    ∷ (256, 0, 32, pos 220) ∷ (256, 224, 28, pos 0) ∷ (256, 224, 29, minus 4) ∷ (256, 252, 32, minus 32) ∷ (256, 256, 1, minus 8)
    ∷ (256, 219, 32, pos 1) ∷ (256, 220, 32, pos 0) ∷ (256, 221, 32, minus 1)
    ∷ []

abbrev pub RoomsHold : Type 0
RoomsHold = map (λ r. room r.0 r.1 r.2) rooms ≡ map (λ r. r.3) rooms

-- the nearest to the largest number of 32 bits and to the least, to one more and to one less
abbrev pub EndsHold : Type 0
EndsHold =
    map saturated (pos (2 ^ 31 - 1) ∷ minus (2 ^ 31) ∷ pos (2 ^ 31) ∷ minus (2 ^ 31 + 1) ∷ [])
    ≡ pos (2 ^ 31 - 1) ∷ minus (2 ^ 31) ∷ pos (2 ^ 31 - 1) ∷ minus (2 ^ 31) ∷ []

-- 02, request Three: "one bit for each priority with a ready task": the word of bits after each of some calls
abbrev pub bits_after : Lent → List Call → List ℕ
bits_after x [] = []
bits_after x (c ∷ cs) = let y = (step x c []).lent in y.kernel.bitmap ! 0 ∷ bits_after y cs

-- Two tasks of priority 5 are started beside task 1, which holds a mutex that inherits; one of them waits for it, and task 1 is raised to 5; task 1 unlocks and
-- is at 8 again. The two exit, first one and then the other. Task 1 goes to the last priority, to the first, and exits; a tick passes.
abbrev pub BitsHold : Type 0
BitsHold =
    bits_after fresh_lent
    (CreMtx (pos 2) (pos 0) ∷ LocMtx (pos 1) forever ∷ CreTsk (pos 5) ∷ CreTsk (pos 5) ∷ StaTsk (pos 2) ∷ StaTsk (pos 3) ∷ LocMtx (pos 1) forever ∷ UnlMtx (pos 1)
    ∷ ExtTsk ∷ ExtTsk ∷ ChgPri (pos 0) (pos 16) ∷ ChgPri (pos 0) (pos 1) ∷ ExtTsk ∷ Tick ∷ [])
    ≡ 128 ∷ 128 ∷ 128 ∷ 128 ∷ 144 ∷ 144 ∷ 16 ∷ 144 ∷ 144 ∷ 128 ∷ 32768 ∷ 1 ∷ 0 ∷ 0 ∷ []

-- "sound states [..] gain 'the bits as worked out afresh'": the fresh state with one of the word's 32 bits, counted from 0, the other way; bit 7 is set
abbrev wrong_bit : ℕ → Lent
wrong_bit i = record { kernel = with_bitmap fresh (with_bit (2 ^ 7) i (not (eqb i 7))); store = zeros store_bytes; outbox = zeros outbox_bytes }

abbrev pub WrongBitsFail : Type 0
WrongBitsFail = map (λ i. valid (wrong_bit i)) (count_from 0 32) ≡ map (λ i. false) (count_from 0 32)

-- Buffer 1 has bufsz bytes. Messages of these lengths are stored; then one of n bytes is sent that must not wait. Its answer is seen, and what is used then.
abbrev send_into : ℕ → List ℕ → ℕ → Answer → ℕ → Case
send_into bufsz lengths n answer u =
    case (CreMbf (pos 0) (pos bufsz) (pos 32) ∷ map (λ l. SndMbf (pos 1) (pos l) forever) lengths ++ SndMbf (pos 1) (pos n) (pos 0) ∷ [])
    (used 1 ∷ []) (seen (new 1 ∷ map (λ l. OK) lengths ++ answer ∷ []) [] [] (u ∷ []))

-- a byte is lacking, it fits exactly, a byte is over; 28 bytes cost 32, and 29 cost 36
unfoldable pub one_lacking28 : Case
one_lacking28 = send_into 31 [] 28 (Code E_TMOUT) 0

unfoldable pub exactly28 : Case
exactly28 = send_into 32 [] 28 OK 32

unfoldable pub one_over28 : Case
one_over28 = send_into 33 [] 28 OK 32

unfoldable pub one_lacking29 : Case
one_lacking29 = send_into 35 [] 29 (Code E_TMOUT) 0

unfoldable pub exactly29 : Case
exactly29 = send_into 36 [] 29 OK 36

unfoldable pub one_over29 : Case
one_over29 = send_into 37 [] 29 OK 36

-- bufsz 35 has bytes over for 28, bufsz 0 lacks some for any
unfoldable pub three_over : Case
three_over = send_into 35 [] 28 OK 32

unfoldable pub no_room : Case
no_room = send_into 0 [] 1 (Code E_TMOUT) 0

-- seven of 28 leave 32 of bufsz 256: 28 fit exactly, for 29 four are lacking; of 255 one is lacking for 28
abbrev seven_of28 : List ℕ
seven_of28 = 28 ∷ 28 ∷ 28 ∷ 28 ∷ 28 ∷ 28 ∷ 28 ∷ []

unfoldable pub last_exactly : Case
last_exactly = send_into 256 seven_of28 28 OK 256

unfoldable pub last_lacking : Case
last_lacking = send_into 256 seven_of28 29 (Code E_TMOUT) 224

unfoldable pub last_byte_lacking : Case
last_byte_lacking = send_into 255 seven_of28 28 (Code E_TMOUT) 224

-- "the look at the end of each call ask[s] it too": a byte is stored, and task 1 waits with 29; once task 2 has received the byte, a byte is lacking, or it
-- fits exactly and is stored
abbrev looked_at : ℕ → List (ℕ × ℤ) → ℕ → Case
looked_at bufsz ended u =
    case
    (second ++ CreMbf (pos 0) (pos bufsz) (pos 32) ∷ SndMbf (pos 1) (pos 1) forever ∷ SndMbf (pos 1) (pos 29) forever ∷ RcvMbf (pos 1) forever ∷ [])
    (used 1 ∷ []) (seen (new 2 ∷ OK ∷ new 1 ∷ OK ∷ Waits ∷ new 1 ∷ []) ended ((2, message 1) ∷ []) (u ∷ []))

unfoldable pub still_lacking : Case
still_lacking = looked_at 35 [] 0

unfoldable pub now_exactly : Case
now_exactly = looked_at 36 ((1, E_OK) ∷ []) 36

-- ---- inheritance

-- Mutexes 1 and 2 of attribute 2. Task 1 is B (8); task 2 is A (12), which locks mutex 1 while task 1 waits a millisecond; task 3 is C.
abbrev holding : ℤ → List Call
holding c =
    CreMtx (pos 2) (pos 0) ∷ CreMtx (pos 2) (pos 0) ∷ CreTsk (pos 12) ∷ CreTsk c ∷ StaTsk (pos 2) ∷ CreMbf (pos 0) (pos 0) (pos 1)
    ∷ RcvMbf (pos 1) (pos 1) ∷ LocMtx (pos 1) forever ∷ Tick ∷ LocMtx (pos 2) forever ∷ []

abbrev held : List Answer
held = new 1 ∷ new 2 ∷ new 2 ∷ new 3 ∷ OK ∷ new 1 ∷ Waits ∷ OK ∷ OK ∷ OK ∷ []

-- "A (12) holds 1, B (8) holds 2 and waits for 1, C (3) waits for 2: A has 3."
abbrev chain : List Call
chain = holding (pos 3) ++ LocMtx (pos 1) forever ∷ StaTsk (pos 3) ∷ LocMtx (pos 2) (pos 1) ∷ []

unfoldable pub chain_raises : Case
chain_raises =
    case chain (current 2 ∷ current 1 ∷ current 3 ∷ [])
    (seen (held ++ Waits ∷ OK ∷ Waits ∷ []) ((1, E_TMOUT) ∷ []) [] (3 ∷ 3 ∷ 3 ∷ []))

-- "C times out: A and B have 8."
unfoldable pub chain_lowers : Case
chain_lowers =
    case (chain ++ Tick ∷ []) (current 2 ∷ current 1 ∷ current 3 ∷ [])
    (seen (held ++ Waits ∷ OK ∷ Waits ∷ OK ∷ []) ((1, E_TMOUT) ∷ (3, E_TMOUT) ∷ []) [] (8 ∷ 8 ∷ 3 ∷ []))

-- "A (12) holds 1 and waits for 2, B (8) the reverse: both 8." C (2) waits for a message meanwhile.
abbrev circle : List Call
circle =
    holding (pos 2) ++ StaTsk (pos 3) ∷ RcvMbf (pos 1) (pos 1) ∷ LocMtx (pos 1) forever ∷ LocMtx (pos 2) forever ∷ []

abbrev in_circle : List Answer
in_circle = held ++ OK ∷ Waits ∷ Waits ∷ Waits ∷ []

unfoldable pub circle_stands : Case
circle_stands = case circle (current 2 ∷ current 1 ∷ []) (seen in_circle ((1, E_TMOUT) ∷ []) [] (8 ∷ 8 ∷ []))

-- "C (2) waits for 1: both 2."
unfoldable pub circle_raises : Case
circle_raises =
    case (circle ++ Tick ∷ LocMtx (pos 1) (pos 1) ∷ []) (current 2 ∷ current 1 ∷ [])
    (seen (in_circle ++ OK ∷ Waits ∷ []) ((1, E_TMOUT) ∷ (3, E_TMOUT) ∷ []) [] (2 ∷ 2 ∷ []))

-- "C times out: both 8."
unfoldable pub circle_lowers : Case
circle_lowers =
    case (circle ++ Tick ∷ LocMtx (pos 1) (pos 1) ∷ Tick ∷ []) (current 2 ∷ current 1 ∷ [])
    (seen (in_circle ++ OK ∷ Waits ∷ OK ∷ []) ((1, E_TMOUT) ∷ (3, E_TMOUT) ∷ (3, E_TMOUT) ∷ []) [] (8 ∷ 8 ∷ []))

-- ---- 02, request Five: chg_pri counts as joining anew "only if current and base priority are equal afterwards; a task kept up by a mutex keeps its joining"

abbrev runs : Lent → ℕ
runs x = running x.kernel

-- Not raised: task 1 gets the priority that it has, by its number or as the initial one, and stands behind task 2, which has it too and runs then;
abbrev equal_ready : ℤ → Case
equal_ready base =
    case (CreTsk (pos 8) ∷ StaTsk (pos 2) ∷ ChgPri (pos 0) base ∷ []) (current 1 ∷ runs ∷ [])
    (seen (new 2 ∷ OK ∷ OK ∷ []) [] [] (8 ∷ 2 ∷ []))

unfoldable pub not_raised : Case
not_raised = equal_ready (pos 8)

unfoldable pub initial_again : Case
initial_again = equal_ready (pos 0)

-- or that of task 2, which is not its own until priorities are settled.
unfoldable pub equal_afterwards : Case
equal_afterwards =
    case (second ++ ChgPri (pos 0) (pos 9) ∷ []) (current 1 ∷ runs ∷ [])
    (seen (new 2 ∷ OK ∷ OK ∷ []) [] [] (9 ∷ 2 ∷ []))

-- Task 1 (8) holds mutex 1, of attribute 2, for which task 2 (4) waits, and so has 4, as task 3, which stands ready behind it. Then bases are changed, of these tasks
-- to these.
abbrev inherited : List (ℕ × ℕ) → ℕ → Case
inherited changes who =
    case
    (CreMtx (pos 2) (pos 0) ∷ LocMtx (pos 1) forever ∷ CreTsk (pos 4) ∷ StaTsk (pos 2) ∷ LocMtx (pos 1) forever ∷ CreTsk (pos 4) ∷ StaTsk (pos 3)
    ∷ map (λ c. ChgPri (pos c.0) (pos c.1)) changes)
    (current 1 ∷ runs ∷ []) (seen (new 1 ∷ OK ∷ new 2 ∷ OK ∷ Waits ∷ new 3 ∷ OK ∷ map (λ c. OK) changes) [] [] (4 ∷ who ∷ []))

-- down, up, to the base that it has, to the initial one: it keeps its place
unfoldable pub kept_up : Case
kept_up = inherited ((1, 10) ∷ (1, 6) ∷ (1, 6) ∷ (1, 0) ∷ []) 1

-- raised to exactly its new base: it joins anew, though the mutex would keep it there
unfoldable pub raised_exactly : Case
raised_exactly = inherited ((1, 4) ∷ []) 3

-- then task 3 goes behind it, and its base falls below what the mutex keeps it at: equal before, not afterwards
unfoldable pub kept_up_afterwards : Case
kept_up_afterwards = inherited ((1, 4) ∷ (3, 4) ∷ (1, 10) ∷ []) 1

-- the same from 2, so that its current priority changes too: it keeps its joining, and stands before task 3
unfoldable pub kept_up_lowered : Case
kept_up_lowered = inherited ((1, 2) ∷ (3, 4) ∷ (1, 10) ∷ []) 1

-- "A change caused by mutexes doesn't alter when a task joined": task 2 waits for task 1's mutex, and its base falls, so that task 1 has its own, 8, again, as task 3,
-- which stands ready behind it
unfoldable pub holder_lowered : Case
holder_lowered =
    case
    (CreMtx (pos 2) (pos 0) ∷ LocMtx (pos 1) forever ∷ CreTsk (pos 4) ∷ StaTsk (pos 2) ∷ LocMtx (pos 1) forever ∷ CreTsk (pos 8) ∷ StaTsk (pos 3)
    ∷ ChgPri (pos 2) (pos 9) ∷ [])
    (current 1 ∷ runs ∷ []) (seen (new 1 ∷ OK ∷ new 2 ∷ OK ∷ Waits ∷ new 3 ∷ OK ∷ OK ∷ []) [] [] (8 ∷ 1 ∷ []))

-- Raised by a ceiling: task 1 (8) holds mutex 1 with ceiling 4, and so has 4, as task 2, which stands ready behind it.
abbrev under_ceiling : ℤ → ℕ → Case
under_ceiling base who =
    case (CreMtx (pos 3) (pos 4) ∷ LocMtx (pos 1) forever ∷ CreTsk (pos 4) ∷ StaTsk (pos 2) ∷ ChgPri (pos 0) base ∷ [])
    (current 1 ∷ runs ∷ []) (seen (new 1 ∷ OK ∷ new 2 ∷ OK ∷ OK ∷ []) [] [] (4 ∷ who ∷ []))

unfoldable pub ceiling_keeps_up : Case
ceiling_keeps_up = under_ceiling (pos 10) 1

unfoldable pub ceiling_exactly : Case
ceiling_exactly = under_ceiling (pos 4) 2

-- Waits: task 1 has the only block of a pool with this attribute; task 2 (6) waits for it and holds mutex 1, of attribute 2, for which task 3 (5) waits; task 4 (5)
-- waits for the block behind task 2. Task 1 changes task 2's base and returns the block, which the first of the two gets.
abbrev in_pool : ℤ → ℤ → ℕ → ℕ → Case
in_pool attribute base p first =
    case
    (CreMpf attribute (pos 1) (pos 1) ∷ GetMpf (pos 1) forever ∷ CreMtx (pos 2) (pos 0) ∷ CreTsk (pos 6) ∷ StaTsk (pos 2) ∷ LocMtx (pos 1) forever ∷ GetMpf (pos 1) forever
    ∷ CreTsk (pos 5) ∷ StaTsk (pos 3) ∷ LocMtx (pos 1) forever ∷ CreTsk (pos 5) ∷ StaTsk (pos 4) ∷ GetMpf (pos 1) forever
    ∷ ChgPri (pos 2) base ∷ RelMpf (pos 1) (pos 1) ∷ [])
    (current 2 ∷ [])
    (seen (new 1 ∷ OK ∷ new 1 ∷ new 2 ∷ OK ∷ OK ∷ Waits ∷ new 3 ∷ OK ∷ Waits ∷ new 4 ∷ OK ∷ Waits ∷ OK ∷ OK ∷ []) ((first, E_OK) ∷ [])
    ((1, Block 1) ∷ (first, Block 1) ∷ []) (p ∷ []))

-- by priority
unfoldable pub pool_kept_up : Case
pool_kept_up = in_pool (pos 1) (pos 7) 5 2

unfoldable pub pool_exactly : Case
pool_exactly = in_pool (pos 1) (pos 5) 5 4

-- not raised: task 2 (5) waits before task 3 (6), until it has 6 too
unfoldable pub pool_not_raised : Case
pool_not_raised =
    case
    (CreMpf (pos 1) (pos 1) (pos 1) ∷ GetMpf (pos 1) forever ∷ CreTsk (pos 5) ∷ StaTsk (pos 2) ∷ GetMpf (pos 1) forever
    ∷ CreTsk (pos 6) ∷ StaTsk (pos 3) ∷ GetMpf (pos 1) forever ∷ ChgPri (pos 2) (pos 6) ∷ RelMpf (pos 1) (pos 1) ∷ [])
    (current 2 ∷ [])
    (seen (new 1 ∷ OK ∷ new 2 ∷ OK ∷ Waits ∷ new 3 ∷ OK ∷ Waits ∷ OK ∷ OK ∷ []) ((3, E_OK) ∷ []) ((1, Block 1) ∷ (3, Block 1) ∷ []) (6 ∷ []))

-- by arrival: it keeps its place either way, raised or not
unfoldable pub arrival_kept_up : Case
arrival_kept_up = in_pool (pos 0) (pos 7) 5 2

unfoldable pub arrival_exactly : Case
arrival_exactly = in_pool (pos 0) (pos 5) 5 2

unfoldable pub arrival_not_raised : Case
arrival_not_raised = in_pool (pos 0) (pos 3) 3 2

-- Senders, by priority: task 2 (6) sends what does not fit, and holds mutex 1, of attribute 2, for which task 3 (5) waits; task 4 (5) sends behind it what fits. Task 1
-- changes task 2's base: what task 4 sends is stored as soon as it is the first.
abbrev in_senders : ℤ → List (ℕ × ℤ) → ℕ → Case
in_senders base ended n =
    case
    (CreMbf (pos 1) (pos 8) (pos 32) ∷ CreMtx (pos 2) (pos 0) ∷ CreTsk (pos 6) ∷ StaTsk (pos 2) ∷ LocMtx (pos 1) forever ∷ SndMbf (pos 1) (pos 16) forever
    ∷ CreTsk (pos 5) ∷ StaTsk (pos 3) ∷ LocMtx (pos 1) forever ∷ CreTsk (pos 5) ∷ StaTsk (pos 4) ∷ SndMbf (pos 1) (pos 4) forever ∷ ChgPri (pos 2) base ∷ [])
    (current 2 ∷ used 1 ∷ [])
    (seen (new 1 ∷ new 1 ∷ new 2 ∷ OK ∷ OK ∷ Waits ∷ new 3 ∷ OK ∷ Waits ∷ new 4 ∷ OK ∷ Waits ∷ OK ∷ []) ended [] (5 ∷ n ∷ []))

unfoldable pub sender_kept_up : Case
sender_kept_up = in_senders (pos 7) [] 0

unfoldable pub sender_exactly : Case
sender_exactly = in_senders (pos 5) ((4, E_OK) ∷ []) 8

-- A circle: tasks 2 (6) and 3 (4) hold mutexes 1 and 2, of attribute 2, and wait for the other's; task 4 (2) waits for mutex 1 behind task 3, so that all three have 2.
-- Task 1 changes task 3's base; the first that waits for mutex 1 is seen.
abbrev in_queue_of_circle : ℤ → ℕ → Case
in_queue_of_circle base first =
    case
    (CreMtx (pos 2) (pos 0) ∷ CreMtx (pos 2) (pos 0) ∷ CreTsk (pos 6) ∷ CreTsk (pos 4) ∷ CreTsk (pos 2) ∷ StaTsk (pos 2) ∷ LocMtx (pos 1) forever ∷ StaTsk (pos 3)
    ∷ LocMtx (pos 2) forever ∷ LocMtx (pos 1) forever ∷ LocMtx (pos 2) forever ∷ StaTsk (pos 4) ∷ LocMtx (pos 1) forever ∷ ChgPri (pos 3) base ∷ [])
    (current 2 ∷ current 3 ∷ (λ x. queue_front x.kernel (queue locking 1)) ∷ [])
    (seen (new 1 ∷ new 2 ∷ new 2 ∷ new 3 ∷ new 4 ∷ OK ∷ OK ∷ OK ∷ OK ∷ Waits ∷ Waits ∷ OK ∷ Waits ∷ OK ∷ []) [] [] (2 ∷ 2 ∷ first ∷ []))

unfoldable pub circle_keeps_up : Case
circle_keeps_up = in_queue_of_circle (pos 5) 3

unfoldable pub circle_exactly : Case
circle_exactly = in_queue_of_circle (pos 2) 4

-- ---- refusals

-- "Unlock of another's mutex: -28."
unfoldable pub not_held : Case
not_held =
    case
    (second ++ CreMtx (pos 2) (pos 0) ∷ LocMtx (pos 1) forever ∷ CreMbf (pos 0) (pos 0) (pos 1) ∷ RcvMbf (pos 1) forever ∷ UnlMtx (pos 1) ∷ [])
    (current 1 ∷ []) (seen (new 2 ∷ OK ∷ new 1 ∷ OK ∷ new 1 ∷ Waits ∷ Code E_ILUSE ∷ []) [] [] (8 ∷ []))

-- "Store of 1,023 or 1,025 bytes: -5."
abbrev pub store_of : ℕ → Answer → Case
store_of n answer =
    record {
      calls = Tick ∷ [];
      store = n;
      outbox = outbox_bytes;
      bytes = sent_bytes;
      watched = [];
      seen = record { answers = answer ∷ []; ended = []; delivered = []; numbers = [] };
    }

-- ---- the table

unfoldable pub table : List Case
table =
    no_message
    ∷ one_byte
    ∷ eighth_waits
    ∷ too_small
    ∷ just_fits
    ∷ oldest_first
    ∷ handed_over
    ∷ few_bytes
    ∷ longest_message
    ∷ timeouts
    ∷ ceilings
    ∷ no_passing
    ∷ last_drained
    ∷ sender_deleted
    ∷ next_dirty
    ∷ last_dirty
    ∷ dirty_behind31
    ∷ clean_tail
    ∷ no_tail
    ∷ beyond_message
    ∷ too_long
    ∷ too_long_clean
    ∷ too_long_missing
    ∷ dirty_missing
    ∷ dirty_numberless
    ∷ one_lacking28
    ∷ exactly28
    ∷ one_over28
    ∷ one_lacking29
    ∷ exactly29
    ∷ one_over29
    ∷ three_over
    ∷ no_room
    ∷ last_exactly
    ∷ last_lacking
    ∷ last_byte_lacking
    ∷ still_lacking
    ∷ now_exactly
    ∷ chain_raises
    ∷ chain_lowers
    ∷ circle_stands
    ∷ circle_raises
    ∷ circle_lowers
    ∷ not_raised
    ∷ initial_again
    ∷ equal_afterwards
    ∷ kept_up
    ∷ raised_exactly
    ∷ kept_up_afterwards
    ∷ kept_up_lowered
    ∷ holder_lowered
    ∷ ceiling_keeps_up
    ∷ ceiling_exactly
    ∷ pool_kept_up
    ∷ pool_exactly
    ∷ pool_not_raised
    ∷ arrival_kept_up
    ∷ arrival_exactly
    ∷ arrival_not_raised
    ∷ sender_kept_up
    ∷ sender_exactly
    ∷ circle_keeps_up
    ∷ circle_exactly
    ∷ not_held
    ∷ store_of (pred store_bytes) (Code E_SYS)
    ∷ store_of store_bytes OK
    ∷ store_of (suc store_bytes) (Code E_SYS)
    ∷ []

-- What happens in every case is what must be seen.
abbrev pub AllHold : List Case → Type 0
AllHold [] = Unit {0}
AllHold (c ∷ cs) = (observed c ≡ c.seen) × AllHold cs

-- ---- bytes

-- "Order 1 below logs 80 FB FF FF FF 8F 00", whatever is lent
abbrev pub order_one_log : List ℕ
order_one_log = 0x80 ∷ 0xFB ∷ 0xFF ∷ 0xFF ∷ 0xFF ∷ 0x8F ∷ 0x00 ∷ []
