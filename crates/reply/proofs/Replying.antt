-- A call is carried out: its answer is logged, and then its acts are done.
use Rattle.model.proofs.Terms.{ℕ, ◌≡◌, refl, List, ◌++◌, append-nil, length, Kernel, with_kernel, Delivery, World, Nothing, Done, kernel, word_count, answer_bytes, delivery_bytes, Areas}
use Rattle.model.specs.declared.call.Answer.{Answer}
use Rattle.state.specs.Words.{Represents}
use Rattle.script.specs.Place.{Appends, Wrote}
use Rattle.script.proofs.Appending.{wrote}
use Rattle.act.specs.Held.{ended_log, areas, Holds, Does, DoesInWords, DoesInStore, DoesInLog}
use Rattle.act.proofs.Doing.{does-words}
use Rattle.reply.specs.declared.Reply.{Reply}
use Rattle.reply.specs.Replies.{lent_world, Carries, CarriesInWords, CarriesInStore, CarriesInLog}

-- what a call comes to, by its answer, what it delivers and its act
abbrev pub done : Answer → Delivery → (World → World) → World → Done
done answer d act w = record { answer = answer; delivery = d; world = act w }

-- no wait has ended yet
begins : (s store o log l1 : List ℕ) (at next : ℕ) (head : List ℕ) → length s ≡ word_count → Wrote log at head l1 next
    → Holds (record { area = log; place = at; head = head }) (lent_world (areas s store o log)) (areas s store o l1) next
unfolding ended_log
begins s store o log l1 at next head h g =
    record { state = record { length = h; kernel = refl }; store = refl; outbox = refl; log = rw (append-nil head) g }

module _ (caller : ℕ) (answer : Answer) (d : Delivery) (act : World → World) {s log l1 : List ℕ} {at p : ℕ} (h : length s ≡ word_count)
    (g : Wrote log at (answer_bytes answer ++ delivery_bytes caller d) l1 p) where
  pub carried : (store o : List ℕ) {b : Areas} {next : ℕ} → Does act (areas s store o l1) p b next
      → Carries caller (done answer d act) (areas s store o log) at b (record { answer = answer; next = next })
  carried store o f = record { answer = refl; holds = f.holds _ _ (begins s store o log l1 at p _ h g) }

  pub carried-in-words : {s' : List ℕ} → DoesInWords act s s'
      → CarriesInWords caller (done answer d act) s log at s' l1 (record { answer = answer; next = p })
  carried-in-words f = record { carries = λ store o. carried store o (f.does store o l1 p) }

  pub carried-in-store : {store s' store' : List ℕ} → DoesInStore act s store s' store'
      → CarriesInStore caller (done answer d act) s store log at s' store' l1 (record { answer = answer; next = p })
  carried-in-store f = record { carries = λ o. carried _ o (f.does o l1 p) }

  pub carried-in-log : {o s' o' log' : List ℕ} {next : ℕ} → DoesInLog act s o l1 p s' o' log' next
      → CarriesInLog caller (done answer d act) s o log at s' o' log' (record { answer = answer; next = next })
  carried-in-log f = record { carries = λ store. carried store _ (f.does store) }

-- an answer that delivers nothing
pub answer-alone : (caller : ℕ) (answer : Answer) {log l1 : List ℕ} {at p : ℕ} → Appends log at (answer_bytes answer) l1 p
    → Wrote log at (answer_bytes answer ++ delivery_bytes caller Nothing) l1 p
unfolding delivery_bytes
answer-alone caller answer g = rw (append-nil (answer_bytes answer)) (wrote g)

-- what a call comes to on the world that is lent is all that counts
pub carries-as : (caller : ℕ) {call same : World → Done} {a b : Areas} {at : ℕ} {r : Reply} → call (lent_world a) ≡ same (lent_world a)
    → Carries caller same a at b r → Carries caller call a at b r
carries-as caller e c = record { answer = rw e c.answer; holds = rw e c.holds }

pub in-words-as : (caller : ℕ) {call same : World → Done} {s log s' log' : List ℕ} {at : ℕ} {r : Reply}
    → ((store outbox : List ℕ) → call (lent_world (areas s store outbox log)) ≡ same (lent_world (areas s store outbox log)))
    → CarriesInWords caller same s log at s' log' r → CarriesInWords caller call s log at s' log' r
in-words-as caller e c = record { carries = λ store outbox. carries-as caller (e store outbox) (c.carries store outbox) }

pub in-log-as : (caller : ℕ) {call same : World → Done} {s o log s' o' log' : List ℕ} {at : ℕ} {r : Reply}
    → ((store : List ℕ) → call (lent_world (areas s store o log)) ≡ same (lent_world (areas s store o log)))
    → CarriesInLog caller same s o log at s' o' log' r → CarriesInLog caller call s o log at s' o' log' r
in-log-as caller e c = record { carries = λ store. carries-as caller (e store) (c.carries store) }

-- an act on the kernel alone
pub changes-kernel : (act : Kernel → Kernel) {s s' : List ℕ} → Represents s' (act (kernel s)) → DoesInWords (λ w. with_kernel w (act w.kernel)) s s'
changes-kernel act r = does-words _ r (λ store outbox log es. refl)
