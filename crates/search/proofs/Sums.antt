-- A sum of numbers, one for each of a kind, that is held against a bound: what is left to add and what is left of the bound decide.
-- Assumes nothing.
use Prim.Native.Nat.{ℕ, ◌+◌, ◌*◌, ◌-◌, ◌^◌, ◌≤◌, ◌<◌}
use native.Mathlib.Nat.{add_comm, mul-le-mul}
use native.Mathlib.Omega.{arith}
use mathlib.Core.Path.{◌≡◌, ◌∙◌, sym}
use mathlib.Core.Bool.{Bool, true, false, not}
use mathlib.Core.List.{List, map}
use lib.Dec.{leb, ltb}
use mir.Syntax.{w64}
use mir.Val.{Fits}
use borrow.Author.Tests.{ltb-true, ltb-false, leb-true, lt-ltb, le-ltb, le-leb, not-true}
use Rattle.model.specs.Lists.{sum, up_to}
use Rattle.model.specs.Number.{word_number}
use Rattle.model.proofs.ListLaws.{bool-ext}
use Rattle.model.proofs.NumberLaws.{Kind}
use Rattle.model.proofs.Rest.{Rest, kind-all, kind-here, kind-more, kind-never, kind-done}

-- the product of two words
pub product-fits : (a b : ℕ) → a < 2 ^ 32 → b < 2 ^ 32 → Fits w64 (a * b)
product-fits a b h k = record { fits = omega (arith, bound) }
  where
    bound : a * b ≤ (2 ^ 32 - 1) * (2 ^ 32 - 1)
    bound = mul-le-mul {n₂ = 2 ^ 32 - 1} {m₂ = 2 ^ 32 - 1} (omega arith) (omega arith)

-- a number that is not above a bound is at most it
pub not-above : (n bound : ℕ) → not (ltb bound n) ≡ leb n bound
not-above n bound =
    bool-ext (not (ltb bound n)) (leb n bound) (λ q. le-leb n bound (ltb-false bound n (not-true (ltb bound n) q))) (λ q. rw (le-ltb bound n (leb-true n bound q)))

-- what is taken off the sum is taken off the bound
less : (room v s : ℕ) → v ≤ room → ltb room (v + s) ≡ ltb (room - v) s
less room v s h =
    bool-ext (ltb room (v + s)) (ltb (room - v) s) (λ q. lt-ltb (room - v) s (omega (arith, ltb-true room (v + s) q)))
    (λ q. lt-ltb room (v + s) (omega (arith, ltb-true (room - v) s q)))

-- whether numbers together are above the room
abbrev above : (ℕ → ℕ) → ℕ → List ℕ → Bool
above f room ns = ltb room (sum (map f ns))

pub record Adding {A : Type 0} (kind : Kind A) (f : ℕ → ℕ) (n room : ℕ) (whole : Bool) : Type 0 where
  pub left : Rest kind (above f room) n whole

-- what is added to all of them is taken off first
pub add-first-over : (bound more s : ℕ) → bound < more → true ≡ ltb bound (s + more)
add-first-over bound more s h = sym (lt-ltb bound (s + more) (omega arith))

pub add-all : {A : Type 0} (kind : Kind A) (f : ℕ → ℕ) (bound more : ℕ) → more ≤ bound
    → Adding kind f 1 (bound - more) (ltb bound (sum (map f (up_to kind.last)) + more))
add-all kind f bound more h = record { left = rw (add_comm, less bound more _ h) (kind-all kind (above f (bound - more))) }

module _ {A : Type 0} {kind : Kind A} {f : ℕ → ℕ} {n room : ℕ} {whole : Bool} (adding : Adding kind f n room whole) where
  module _ {found : A} (made : found ≡ kind.make (word_number n kind.last)) where
    module _ {x : ℕ} (some : found ≡ kind.some x) {v : ℕ} (e : v ≡ f x) where
      pub add-over : room < v → true ≡ whole
      add-over h = sym (kind-here adding.left made some ∙ lt-ltb room _ (omega (arith, e)))

      pub add-more : v ≤ room → Adding kind f (n + 1) (room - v) whole
      add-more h = record { left = kind-more adding.left made some (above f (room - v)) (rw (← e) (less room v _ h)) }

    pub add-never : n ≤ kind.last → found ≡ kind.none → true ≡ whole
    add-never = kind-never adding.left made

  pub add_done : kind.last < n → false ≡ whole
  add_done l = sym (kind-done adding.left l ∙ le-ltb room 0 (omega arith))
