-- What a call's functions promise: the first refusal that applies, and of a call that is carried out its answer and all that is lent.
use Rattle.std.specs.Prelude.{ℕ, ◌≡◌, List, ◌++◌}
use Rattle.model.specs.World.{World, begun}
use Rattle.model.specs.Effect.{Done}
use Rattle.model.specs.Log.{answer_bytes, delivery_bytes}
use Rattle.model.specs.Lent.{Areas, lent}
use Rattle.act.specs.Held.{areas, Start, Holds}
use Rattle.reply.specs.declared.Reply.{Reply}

-- the world that a call begins with
abbrev pub lent_world : Areas → World
lent_world a = begun (lent a.words a.store a.outbox)

-- where a call's log begins: its answer and what that delivers to the caller go first
abbrev pub started : Areas → ℕ → ℕ → Done → Start
started a at caller d = record { area = a.log; place = at; head = answer_bytes d.answer ++ delivery_bytes caller d.delivery }

-- A call is carried out: its answer, and the areas hold its world and its log.
pub record Carries (caller : ℕ) (call : World → Done) (a : Areas) (at : ℕ) (b : Areas) (r : Reply) : Type 0 where
  pub answer : r.answer ≡ (call (lent_world a)).answer
  pub holds : Holds (started a at caller (call (lent_world a))) (call (lent_world a)).world b r.next

-- Calls to which a part is lent, and which leave the rest, whatever it is: words and log,
pub record CarriesInWords (caller : ℕ) (call : World → Done) (s log : List ℕ) (at : ℕ) (s' log' : List ℕ) (r : Reply) : Type 0 where
  pub carries : (store outbox : List ℕ) → Carries caller call (areas s store outbox log) at (areas s' store outbox log') r

-- all but the outbox,
pub record CarriesInStore (caller : ℕ) (call : World → Done) (s store log : List ℕ) (at : ℕ) (s' store' log' : List ℕ) (r : Reply) : Type 0 where
  pub carries : (outbox : List ℕ) → Carries caller call (areas s store outbox log) at (areas s' store' outbox log') r

-- all but the store.
pub record CarriesInLog (caller : ℕ) (call : World → Done) (s outbox log : List ℕ) (at : ℕ) (s' outbox' log' : List ℕ) (r : Reply) : Type 0 where
  pub carries : (store : List ℕ) → Carries caller call (areas s store outbox log) at (areas s' store outbox' log') r
