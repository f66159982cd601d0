-- What the reads of a queue's functions say of any state: entries by a word that names an object or nothing, and who stands where. Assumes nothing.
use Prim.Native.Nat.{ℕ, suc, ◌%◌, ◌≤◌, ◌<◌}
use native.Mathlib.Omega.{arith}
use mathlib.Core.Path.{◌≡◌, ◌∙◌, refl, sym, ap}
use mathlib.Core.Logic.{inl, inr}
use mathlib.Core.Bool.{Bool, true, false, ◌&&◌, false≢true, and-false}
use mathlib.Core.List.{List}
use lib.ListN.{length}
use lib.Dec.{eqb, leb, ltb}
use borrow.Author.Tests.{eq-eqb, ne_eqb, eqb-true, le-leb, lt-leb, leb-true, lt-ltb, le-ltb}
use Rattle.model.specs.Sizes.{tasks}
use Rattle.model.specs.Lists.{◌!◌, within}
use Rattle.model.specs.Facts.{Facts, Queue, queue, ready, locking, sending, getting}
use Rattle.model.specs.Queue.{by_priority}
use Rattle.model.specs.Kernel.{Kernel, numbered, stands_in}
use Rattle.model.specs.Number.{word_number}
use Rattle.model.proofs.NumberLaws.{Names, NamesNone, Kind, named, unnamed, numbered-at, numbered-none}
use Rattle.queue.specs.Better.{better}

-- ---- entries

module _ {A : Type 0} (kind : Kind A) (xs : List ℕ) (u : ℕ) {found : A} (made : found ≡ kind.make (word_number u kind.last)) where
  pub entry-there : (x r : ℕ) → found ≡ kind.some x → r ≡ xs ! x → r ≡ numbered xs ! u
  entry-there x r e f =
      let n = named kind made e in
      f ∙ ap (λ (i : ℕ). xs ! i) n.0 ∙ sym (numbered-at xs u n.1)

  pub entry-none : found ≡ kind.none → length xs ≡ suc kind.last → 0 ≡ numbered xs ! u
  entry-none e long = sym (numbered-none kind.last xs u long (unnamed kind made e))

-- ---- who stands in a queue

module _ (k : Kernel) (place object u : ℕ) where
  within_none : NamesNone tasks u → within 1 tasks u ≡ false
  within_none (inl e) = rw e
  within_none (inr h) = rw (lt-leb u tasks h) (and-false (leb 1 u))

  pub stands-nowhere : NamesNone tasks u → false ≡ stands_in k (queue place object) u
  unfolding stands_in
  stands-nowhere h = sym (rw (within_none h))

  module _ (n : ℕ) (names : Names tasks u n) where
    within-there : within 1 tasks u ≡ true
    within-there = rw (le-leb 1 u names.1, le-leb u tasks names.2)

    pub stands-elsewhere : (p : ℕ) → p ≡ k.tasks.place ! n → (p ≡ place → ⊥) → false ≡ stands_in k (queue place object) u
    unfolding stands_in
    stands-elsewhere p e d = sym (rw (within-there, ← names.0, ← e, ne_eqb p place d))

    pub stands-there : (p o : ℕ) → p ≡ k.tasks.place ! n → p ≡ place → o ≡ k.tasks.object ! n → eqb o object ≡ stands_in k (queue place object) u
    unfolding stands_in
    stands-there p o e q f = sym (rw (within-there, ← names.0, ← e, eq-eqb p place q, ← f))

pub and_left : (a b : Bool) → a && b ≡ true → a ≡ true
and_left true b e = refl
and_left false b e = e

and_right : (a b : Bool) → a && b ≡ true → b ≡ true
and_right true b e = e
and_right false b e = absurd (false≢true e)

-- whoever stands in a queue is a task
pub stands-task : (k : Kernel) (q : Queue) (u : ℕ) → stands_in k q u ≡ true → (1 ≤ u) × (u ≤ tasks)
unfolding stands_in
stands-task k q u e =
    let a = and_left (within 1 tasks u) (eqb (k.tasks.place ! u) q.place) (and_left _ (eqb (k.tasks.object ! u) q.object) e) in
    (leb-true 1 u (and_left (leb 1 u) (leb u tasks) a), leb-true u tasks (and_right (leb 1 u) (leb u tasks) a))

-- and stands at its place
pub stands-place : (k : Kernel) (q : Queue) (u : ℕ) → stands_in k q u ≡ true → k.tasks.place ! u ≡ q.place
unfolding stands_in
stands-place k q u e = eqb-true _ _ (and_right (within 1 tasks u) _ (and_left _ (eqb (k.tasks.object ! u) q.object) e))

-- ---- which queues go by priority

module _ (f : Facts) (place object : ℕ) where
  pub by-ready : place ≡ ready → true ≡ by_priority f (queue place object)
  unfolding by_priority
  by-ready e = rw (eq-eqb place ready e)

  module _ (r : place ≡ ready → ⊥) where
    pub by-locking : (a : ℕ) → place ≡ locking → a ≡ f.mutex_attribute ! object → ltb 0 a ≡ by_priority f (queue place object)
    unfolding by_priority
    by-locking a e q = rw (q, ne_eqb place ready r, eq-eqb place locking e)

    module _ (l : place ≡ locking → ⊥) where
      pub by-sending : (a : ℕ) → place ≡ sending → a ≡ f.buffer_attribute ! object → eqb a 1 ≡ by_priority f (queue place object)
      unfolding by_priority
      by-sending a e q = rw (q, ne_eqb place ready r, ne_eqb place locking l, eq-eqb place sending e)

      module _ (s : place ≡ sending → ⊥) where
        pub by-getting : (a : ℕ) → place ≡ getting → a ≡ f.pool_attribute ! object → eqb (a % 256) 1 ≡ by_priority f (queue place object)
        unfolding by_priority
        by-getting a e q = rw (q, ne_eqb place ready r, ne_eqb place locking l, ne_eqb place sending s, eq-eqb place getting e)

        pub by-arrival : (place ≡ getting → ⊥) → false ≡ by_priority f (queue place object)
        unfolding by_priority
        by-arrival g = rw (ne_eqb place ready r, ne_eqb place locking l, ne_eqb place sending s, ne_eqb place getting g)

-- ---- the better of two

module _ (current : List ℕ) (best u : ℕ) where
  pub better-none : best ≡ 0 → u ≡ better current best u
  better-none e = rw (eq-eqb best 0 e)

  module _ (h : best ≡ 0 → ⊥) (a b : ℕ) (ea : a ≡ current ! u) (eb : b ≡ current ! best) where
    pub better-yes : a < b → u ≡ better current best u
    better-yes l = rw (ne_eqb best 0 h, lt-ltb (current ! u) (current ! best) (omega arith))

    pub better-no : b ≤ a → best ≡ better current best u
    better-no l = rw (ne_eqb best 0 h, le-ltb (current ! u) (current ! best) (omega arith))
