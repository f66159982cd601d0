-- What lent words and areas hold while a call is carried out: a world of the definitions, its ended waits being the bytes logged so far. What an
-- act does: whatever world they hold before it, they hold after it what the act makes of that world.
use Rattle.std.specs.Prelude.{ℕ, ◌≡◌, List, ◌++◌, map}
use Rattle.model.specs.Lists.{joined}
use Rattle.model.specs.World.{World, Ended}
use Rattle.model.specs.Log.{ended_bytes}
use Rattle.model.specs.Lent.{Areas}
use Rattle.state.specs.Words.{Represents}
use Rattle.script.specs.Place.{Wrote}

-- the bytes of ended waits, as a record's log has them
unfoldable pub ended_log : List Ended → List ℕ
ended_log es = joined (map ended_bytes es)

abbrev pub areas : List ℕ → List ℕ → List ℕ → List ℕ → Areas
areas words store outbox log = record { words = words; store = store; outbox = outbox; log = log }

-- Where the log of a record begins: an area, a place in it, and the bytes that go before the ended waits, those of the answer.
pub record Start : Type 0 where
  pub area : List ℕ
  pub place : ℕ
  pub head : List ℕ

-- The areas hold a world, whose log has been written from a start on, up to a place: all of it, if there is room for all.
pub record Holds (l : Start) (w : World) (a : Areas) (at : ℕ) : Type 0 where
  pub state : Represents a.words w.kernel
  pub store : a.store ≡ w.store
  pub outbox : a.outbox ≡ w.outbox
  pub log : Wrote l.area l.place (l.head ++ ended_log w.ended) a.log at

-- An act on all that is lent; the log goes on at a place, and after the act at the next one.
pub record Does (act : World → World) (a : Areas) (at : ℕ) (b : Areas) (next : ℕ) : Type 0 where
  pub holds : (l : Start) (w : World) → Holds l w a at → Holds l (act w) b next

-- Acts to which a part is lent, and which leave the rest, whatever it is: the words alone,
pub record DoesInWords (act : World → World) (s s' : List ℕ) : Type 0 where
  pub does : (store outbox log : List ℕ) (at : ℕ) → Does act (areas s store outbox log) at (areas s' store outbox log) at

-- the words and the store,
pub record DoesInStore (act : World → World) (s store s' store' : List ℕ) : Type 0 where
  pub does : (outbox log : List ℕ) (at : ℕ) → Does act (areas s store outbox log) at (areas s' store' outbox log) at

-- all but the store.
pub record DoesInLog (act : World → World) (s outbox log : List ℕ) (at : ℕ) (s' outbox' log' : List ℕ) (next : ℕ) : Type 0 where
  pub does : (store : List ℕ) → Does act (areas s store outbox log) at (areas s' store outbox' log') next
