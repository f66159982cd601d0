-- Laws of the tests of one object: entries by a word that names an object or nothing, who may hold a mutex, what is waited
-- for, and a base above no ceiling. Assumes nothing.
use Rattle.std.specs.Prelude.{Option}
use Prim.Native.Nat.{ℕ, suc}
use native.Mathlib.Omega.{arith}
use mathlib.Core.Path.{◌≡◌, ◌∙◌, refl, sym, ap}
use mathlib.Core.Logic.{inl, inr}
use mathlib.Core.Bool.{Bool, true, false, ◌&&◌, ◌||◌, not}
use mathlib.Core.List.{List, [], ◌∷◌}
use lib.ListN.{length, get_or-eq_default}
use lib.Dec.{eqb, leb}
use borrow.Author.Tests.{eq-eqb, ne_eqb}
use Rattle.model.specs.Sizes.{tasks, mutexes}
use Rattle.model.specs.Lists.{◌!◌, all, any, up_to}
use Rattle.model.specs.Facts.{ready, locking, getting}
use Rattle.model.specs.Number.{word_number, maybe_task, TaskNumber}
use Rattle.model.specs.Kernel.{Kernel}
use Rattle.model.specs.Refusal.{above_ceiling}
use Rattle.model.specs.Valid.{awaitable, ceiling}
use Rattle.model.proofs.NumberLaws.{NamesNone, Kind, task_kind, named, unnamed}

-- ---- an entry by a word: the object's, or 0 where entry 0 is

beyond : (last : ℕ) (xs : List ℕ) (u : ℕ) → length xs ≡ suc last → NamesNone last u → (u ≡ 0 → xs ! u ≡ 0) → xs ! u ≡ 0
beyond last xs u long (inl e) zero = zero e
beyond last xs u long (inr h) zero = get_or-eq_default xs 0 {n = u} (omega arith)

module _ {A : Type 0} (kind : Kind A) (xs : List ℕ) (u : ℕ) {found : A} (made : found ≡ kind.make (word_number u kind.last)) where
  pub entry-there : (x r : ℕ) → found ≡ kind.some x → r ≡ xs ! x → r ≡ xs ! u
  entry-there x r some e = e ∙ ap (λ (i : ℕ). xs ! i) (named kind made some).0

  pub entry-none : found ≡ kind.none → length xs ≡ suc kind.last → xs ! 0 ≡ 0 → 0 ≡ xs ! u
  entry-none none long zero =
      sym (beyond kind.last xs u long (unnamed kind made none) (λ e. ap (λ (i : ℕ). xs ! i) e ∙ zero))

-- ---- who may hold a mutex

module _ (places : List ℕ) (n : ℕ) where
  pub hold-none : n ≡ 0 → true ≡ eqb n 0 || leb ready (places ! n)
  hold-none e = rw (eq-eqb n 0 e)

  module _ (d : n ≡ 0 → ⊥) {found : Option TaskNumber} (made : found ≡ maybe_task (word_number n tasks)) where
    pub hold-nobody : found ≡ task_kind.none → length places ≡ suc tasks → false ≡ eqb n 0 || leb ready (places ! n)
    hold-nobody none long = rw (ne_eqb n 0 d, beyond tasks places n long (unnamed task_kind made none) (λ e. absurd (d e)))

    pub hold-task : (t p : ℕ) → found ≡ task_kind.some t → p ≡ places ! t → leb ready p ≡ eqb n 0 || leb ready (places ! n)
    hold-task t p some e = rw (ne_eqb n 0 d, entry-there task_kind places n made t p some e)

-- ---- what a task waits for, by its place

module _ (k : Kernel) (place object r : ℕ) where
  pub awaits-mutex : place ≡ locking → r ≡ k.mutexes.exists ! object → r ≡ awaitable k place ! object
  unfolding awaitable
  awaits-mutex e q = rw (eq-eqb place locking e) q

  module _ (d : place ≡ locking → ⊥) where
    pub awaits-block : place ≡ getting → r ≡ k.pools.exists ! object → r ≡ awaitable k place ! object
    unfolding awaitable
    awaits-block e q = rw (ne_eqb place locking d, eq-eqb place getting e) q

    pub awaits-buffer : (place ≡ getting → ⊥) → r ≡ k.buffers.exists ! object → r ≡ awaitable k place ! object
    unfolding awaitable
    awaits-buffer f q = rw (ne_eqb place locking d, ne_eqb place getting f) q

-- ---- a base that is above no ceiling

not-any : (p : ℕ → Bool) (xs : List ℕ) → not (any p xs) ≡ all (λ x. not (p x)) xs
not-any p [] = refl
not-any p (x ∷ xs) = go (p x) (not-any p xs)
  where
    go : (b : Bool) → not (any p xs) ≡ all (λ x. not (p x)) xs → not (b || any p xs) ≡ not b && all (λ x. not (p x)) xs
    go true rest = refl
    go false rest = rest

pub above-none : (k : Kernel) (t : ℕ) {base : ℕ} {r : Bool} → base ≡ k.tasks.base ! t → r ≡ any (above_ceiling k base t) (up_to mutexes)
    → not r ≡ all (ceiling k t) (up_to mutexes)
unfolding ceiling
above-none k t b e = rw (e, b) (not-any (above_ceiling k (k.tasks.base ! t) t) (up_to mutexes))
