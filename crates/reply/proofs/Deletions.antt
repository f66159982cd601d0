-- Deletions of any kind of object: what refuses one; and the object is struck out, and the waits of those that stood in its queue end. Assumes nothing.
use Rattle.model.proofs.Terms.{ℕ, ◌-◌, arith, ◌≡◌, ◌∙◌, refl, ◌≢◌, none, some, List, [], ◌∷◌, length, take, drop, length-drop, ℤ, tasks, ◌!◌, E_OK, E_ID, E_NOEXS, E_DLT, number, Queue, queue, Kernel, World, Nothing, with_kernel, queue_order, end_waits, first_refusal, bad_number, no_such, deletion_refusals, Done, succeeds, Areas, kernel, word_count, answer_bytes}
use lib.Seq.{take_all}
use Rattle.model.specs.Number.{field_number}
use Rattle.model.specs.declared.call.Answer.TheVariants.{Code}
use Rattle.model.proofs.NumberLaws.{Kind}
use Rattle.state.specs.Words.{Represents}
use Rattle.script.specs.Place.{Appends}
use Rattle.order.specs.Order.{Tail, Tasks}
use Rattle.order.proofs.Tasks.{queue-tasks}
use Rattle.act.specs.Held.{Does, DoesInLog}
use Rattle.act.proofs.Doing.{does}
use Rattle.reply.specs.Replies.{CarriesInLog}
use Rattle.reply.proofs.Refusing.{numbered, never-unnumbered, number-refused, missing-refused, there-later}
use Rattle.reply.proofs.Replying.{answer-alone, carried-in-log, changes-kernel}

module _ {A : Type 0} (kind : Kind A) (exists : List ℕ) (n : ℤ) {b : ℤ} (b-is : b ≡ n) {found : A} (from : found ≡ kind.make (field_number b kind.last)) where
  made : found ≡ kind.make (field_number n kind.last)
  made = rw b-is at from

  pub delete-numberless : found ≡ kind.none → some E_ID ≡ first_refusal (deletion_refusals kind.last exists n)
  unfolding deletion_refusals
  delete-numberless e = number-refused kind n made (no_such exists n ∷ []) e

  module _ {m x : ℕ} (there : found ≡ kind.some m) (x-is : x ≡ exists ! m) where
    pub delete-missing : x ≡ 0 → some E_NOEXS ≡ first_refusal (deletion_refusals kind.last exists n)
    unfolding deletion_refusals
    delete-missing e = missing-refused kind n made exists [] there x-is e

    pub delete-allowed : x ≢ 0 → none ≡ first_refusal (deletion_refusals kind.last exists n)
    unfolding deletion_refusals
    delete-allowed e = there-later kind n made exists [] there x-is e refl

  pub delete-named : first_refusal (deletion_refusals kind.last exists n) ≡ none → found ≡ kind.none → ⊥
  unfolding deletion_refusals bad_number
  delete-named e g = never-unnumbered kind n made (deletion_refusals kind.last exists n) 0 e refl g

-- the order that was put down, from its start to the array's end
module _ {ts area : List ℕ} {start : ℕ} (t : Tail ts area start) (size : length area ≡ tasks) where
  pub put-down : take (tasks - start) (drop start area) ≡ ts
  put-down = take_all (tasks - start) (drop start area) (rw (length-drop start area, size) (omega arith)) ∙ t.list

pub put-down-tasks : (k : Kernel) (q : Queue) {area : List ℕ} {start : ℕ} → Tail (queue_order k q) area start → length area ≡ tasks
    → Tasks (take (tasks - start) (drop start area))
put-down-tasks k q t size = rw (put-down t size) (queue-tasks k q)

-- the object is struck out, then the waits end
pub strikes : (strike : World → World) (order : Kernel → List ℕ) {ts : List ℕ} {a b c : Areas} {at next : ℕ} → ts ≡ order (kernel a.words)
    → Does strike a at b at → Does (λ w. end_waits w ts E_DLT) b at c next
    → Does (λ w. end_waits (strike w) (order w.kernel) E_DLT) a at c next
strikes strike order e f g = does λ l es h. rw (← e) (g.holds l _ (f.holds l _ h))

-- a deletion of an object that is all in the words and has one queue
abbrev deletion : (Kernel → ℕ → Kernel) → ℕ → ℕ → World → Done
deletion strike place n w = succeeds (end_waits (with_kernel w (strike w.kernel n)) (queue_order w.kernel (queue place n)) E_DLT)

pub deletes : {A : Type 0} (kind : Kind A) (place : ℕ) (strike : Kernel → ℕ → Kernel) (n : ℤ) {b : ℤ} → b ≡ n → {found : A} {m x : ℕ}
    → found ≡ kind.make (field_number b kind.last) → found ≡ kind.some m
    → (caller : ℕ) {s s1 s' area o o' log l1 log' : List ℕ} {at p next start : ℕ} → length s ≡ word_count → x ≡ m
    → Tail (queue_order (kernel s) (queue place x)) area start → length area ≡ tasks → Appends log at (answer_bytes (Code E_OK)) l1 p
    → Represents s1 (strike (kernel s) m) → DoesInLog (λ w. end_waits w (take (tasks - start) (drop start area)) E_DLT) s1 o l1 p s' o' log' next
    → CarriesInLog caller (deletion strike place (number n)) s o log at s' o' log' (record { answer = Code E_OK; next = next })
deletes kind place strike n b-is {m = m} from there caller h x-is t size a r d =
    let struck = changes-kernel (λ k. strike k m) r in
    let all = rw x-is at (put-down t size) in
    rw (numbered kind n (rw b-is at from) there).1
    (carried-in-log caller (Code E_OK) Nothing _ h (answer-alone caller (Code E_OK) a)
    (record { does = λ store. strikes _ (λ k. queue_order k (queue place m)) all (struck.does store _ _ _) (d.does store) }))
