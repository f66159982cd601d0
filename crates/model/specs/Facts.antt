-- What current priorities and the orders of queues are worked out from, and nothing more. The kernel and the ledger each give these facts.
use Rattle.std.specs.Prelude.{ℕ, List}

-- Where a task stands: absent, dormant, or in a queue. 01's "line" is a queue, its "joining" an arrival.
abbrev pub absent : ℕ
absent = 0

abbrev pub dormant : ℕ
dormant = 1

abbrev pub ready : ℕ
ready = 2

abbrev pub locking : ℕ
locking = 3

abbrev pub sending : ℕ
sending = 4

abbrev pub receiving : ℕ
receiving = 5

abbrev pub getting : ℕ
getting = 6

-- A queue: the place that its tasks have, and the number of the object that they wait for.
pub record Queue : Type 0 where
  pub place : ℕ
  pub object : ℕ

abbrev pub queue : ℕ → ℕ → Queue
queue p n = record { place = p; object = n }

-- the ready queue has no object
abbrev pub ready_queue : Queue
ready_queue = queue ready 0

-- Lists are indexed by an object's number; entry 0 stands for none.
pub record Facts : Type 0 where
  pub base : List ℕ
  pub place : List ℕ
  pub object : List ℕ
  pub mutex_attribute : List ℕ
  pub ceiling : List ℕ
  pub holder : List ℕ
  pub buffer_attribute : List ℕ
  pub pool_attribute : List ℕ
  -- each queue's tasks as they arrived
  pub arrivals : Queue → List ℕ

-- Mutex attributes: 0 and 1 have no effect on priorities, 2 inherits, 3 has a ceiling.
abbrev pub inherits : ℕ
inherits = 2

abbrev pub ceilinged : ℕ
ceilinged = 3
