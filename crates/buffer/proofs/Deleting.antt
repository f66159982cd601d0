-- del_mbf, in the order of the code's steps. Assumes nothing.
use Rattle.std.specs.Prelude.{Option, Some}
use Rattle.model.proofs.Terms.{ℕ, ◌-◌, ◌≡◌, refl, ap₂, List, ◌++◌, foldl-append, length, take, drop, ℤ, tasks, buffers, region_bytes, zeros, E_OK, E_DLT, number, queue, sending, receiving, with_used, Nothing, with_kernel, with_store, queue_order, with_region, end_waits, del_mbf, kernel, word_count, answer_bytes}
use Rattle.model.specs.Number.{field_number, maybe_buffer, BufferNumber}
use Rattle.model.specs.declared.call.Answer.TheVariants.{Code}
use Rattle.model.proofs.NumberLaws.{buffer_kind}
use Rattle.state.specs.Words.{Represents}
use Rattle.script.specs.Place.{Appends}
use Rattle.order.specs.Order.{Tail}
use Rattle.act.specs.Held.{areas, Does, DoesInStore, DoesInLog}
use Rattle.act.proofs.Doing.{does}
use Rattle.act.proofs.Loop.{then-does}
use Rattle.reply.specs.Replies.{Carries}
use Rattle.reply.proofs.Refusing.{numbered}
use Rattle.reply.proofs.Replying.{answer-alone, carried}
use Rattle.reply.proofs.Deletions.{put-down, strikes}
use Rattle.buffer.specs.Rows.{buffer_row}
use Rattle.buffer.specs.Deletion.{struck_out, deleted}

pub strikes-out : (b : ℕ) {s s1 s2 st st' : List ℕ} → Represents s1 (buffer_row (kernel s) b 0 0 0 0) → Represents s2 (with_used (kernel s1) b 0)
    → st' ≡ with_region b st (zeros region_bytes) → DoesInStore (struck_out b) s st s2 st'
unfolding struck_out with_store with_kernel
strikes-out b p u e =
    record { does = λ o l at. does λ k es h. record { state = record { length = u.length; kernel = cc }; store = e; outbox = refl; log = h.log } }

pub ends-both : (ts us : List ℕ) {s s1 s' o o1 o' l l1 l' : List ℕ} {at mid next : ℕ} → DoesInLog (λ w. end_waits w ts E_DLT) s o l at s1 o1 l1 mid
    → DoesInLog (λ w. end_waits w us E_DLT) s1 o1 l1 mid s' o' l' next → DoesInLog (λ w. end_waits w (ts ++ us) E_DLT) s o l at s' o' l' next
unfolding end_waits
ends-both ts us e f =
    record { does = λ st. does λ k es h. rw (foldl-append _ _ ts us) ((then-does (e.does st) (f.does st)).holds k _ h) }

pub ends-all : (b : ℕ) {s s1 s' st st' o o' l l' : List ℕ} {at next n m i j : ℕ} {xs ys : List ℕ}
    → n ≡ b → Tail (queue_order (kernel s) (queue receiving n)) xs i → length xs ≡ tasks
    → m ≡ b → Tail (queue_order (kernel s) (queue sending m)) ys j → length ys ≡ tasks → DoesInStore (struck_out b) s st s1 st'
    → DoesInLog (λ w. end_waits w (take (tasks - i) (drop i xs) ++ take (tasks - j) (drop j ys)) E_DLT) s1 o l at s' o' l' next
    → Does (deleted b) (areas s st o l) at (areas s' st' o' l') next
unfolding deleted
ends-all b n-is r r-size m-is t t-size d e =
    strikes (struck_out b) (λ k. queue_order k (queue receiving b) ++ queue_order k (queue sending b))
    (ap₂ ◌++◌ (rw n-is at (put-down r r-size)) (rw m-is at (put-down t t-size))) (d.does _ _ _) (e.does _)

pub deletes-buffer : (buffer : ℤ) {x : ℤ} → x ≡ buffer → {found : Option BufferNumber} {b : BufferNumber} → found ≡ maybe_buffer (field_number x buffers) → found ≡ Some b
    → (caller : ℕ) {s s' st st' o o' log l1 log' : List ℕ} {at p next : ℕ} → length s ≡ word_count → Appends log at (answer_bytes (Code E_OK)) l1 p
    → Does (deleted b.0) (areas s st o l1) p (areas s' st' o' log') next
    → Carries caller (λ w. del_mbf w (number buffer)) (areas s st o log) at (areas s' st' o' log') (record { answer = Code E_OK; next = next })
unfolding del_mbf deleted struck_out
deletes-buffer buffer x-is from some caller h a d =
    carried caller (Code E_OK) Nothing (deleted (number buffer)) h (answer-alone caller (Code E_OK) a) _ _
    (rw (numbered buffer_kind buffer (rw x-is at from) some).1 d)
