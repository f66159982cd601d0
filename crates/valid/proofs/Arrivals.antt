-- The tests of the arrival order, place after place: the places that are left decide. Assumes nothing.
use Prim.Native.Nat.{ℕ, zero, suc, ◌+◌, ◌≤◌, ◌<◌}
use native.Mathlib.Omega.{arith}
use mathlib.Core.Path.{◌≡◌, ◌∙◌, refl, sym, ap}
use mathlib.Core.Logic.{◌≢◌, ◌⊎◌, inl, inr}
use mathlib.Core.Bool.{Bool, true, false, ◌&&◌, ◌||◌, not, cond}
use mathlib.Core.List.{List, [], ◌∷◌, ◌++◌}
use lib.ListN.{length, take, drop}
use lib.Dec.{eqb, leb}
use mir.Syntax.{w64}
use mir.Val.{Fits}
use borrow.Author.Tests.{eqb-true, eq-eqb, eqb-false, ne_eqb, not-true, not-false}
use Rattle.model.specs.Sizes.{tasks}
use Rattle.model.specs.Lists.{◌!◌, all, all_zero, head_of, implies, keep, occurrences, padded, same, select, zeros}
use Rattle.model.specs.Facts.{ready}
use Rattle.model.specs.Kernel.{Kernel}
use Rattle.model.proofs.ListLaws.{eqb-sym, take-zeros}
use Rattle.model.proofs.Loops.{Over, over-here, over-more, over_done}
use Rattle.valid.specs.Parts.{has_started, given}

-- ---- how often a number stands there

pub record Counted (u : ℕ) (a : List ℕ) (count i : ℕ) : Type 0 where
  pub over : Over (λ xs. count + occurrences u xs) a i (occurrences u a)
  pub few : count ≤ i

one-few : {one : ℕ} (b : Bool) → one ≡ cond b 1 0 → one ≤ 1
one-few true e = omega arith
one-few false e = omega arith

pub count-all : (u : ℕ) (a : List ℕ) → Counted u a 0 0
count-all u a = record { over = record { rest = omega arith; high = omega arith }; few = omega arith }

module _ {u : ℕ} {a : List ℕ} {count i : ℕ} (counted : Counted u a count i) where
  pub count_fits : (t one : ℕ) → i < tasks → one ≡ cond (eqb u t) 1 0 → Fits w64 (count + one)
  count_fits t one h e = record { fits = omega (arith, one-few (eqb u t) e, counted.few) }

  pub count-more : (n t one : ℕ) → length a ≡ n → i < n → t ≡ a ! i → one ≡ cond (eqb u t) 1 0 → Counted u a (count + one) (i + 1)
  count-more n t one long h here e =
      record {
        over = over-more counted.over (λ xs. count + one + occurrences u xs) (omega arith) (rw (← here) (go (eqb u t) e));
        few = omega (arith, one-few (eqb u t) e, counted.few);
      }
    where
      go : (b : Bool) → one ≡ cond b 1 0 → count + length (keep b t (select (eqb u) (drop (i + 1) a))) ≡ count + one + occurrences u (drop (i + 1) a)
      go true q = omega arith
      go false q = omega arith

  pub count-done : (n : ℕ) → length a ≡ n → n ≤ i → count ≡ occurrences u a
  count-done n long h = omega (arith, over_done counted.over (omega arith))

-- ---- whoever stands there was started

not-not-or : (a b : Bool) → a || b ≡ implies (not a) b
not-not-or true b = refl
not-not-or false b = refl

module _ (k : Kernel) (a : List ℕ) (i : ℕ) {whole : Bool} (over : Over (all (has_started k)) a i whole) (n : ℕ) (long : length a ≡ n) where
  module _ (h : i < n) (t : ℕ) (here : t ≡ a ! i) (r : Bool) (e : r ≡ eqb t 0 || leb ready (k.tasks.place ! t)) where
    holds : r ≡ has_started k (a ! i)
    holds = e ∙ not-not-or (eqb t 0) (leb ready (k.tasks.place ! t)) ∙ ap (has_started k) here

    pub started-more : not r ≡ false → Over (all (has_started k)) a (i + 1) whole
    started-more passed = over-more over (all (has_started k)) (omega arith) (rw (sym holds ∙ not-false r passed))

    pub started-stop : not r ≡ true → false ≡ whole
    started-stop failed = sym (over-here over (omega arith) ∙ rw (sym holds ∙ not-true r failed))

  pub started-done : n ≤ i → true ≡ whole
  started-done h = sym (over_done over (omega arith))

-- ---- zeros stand last

-- no number follows a zero; whether one was passed is known
abbrev pub gapless : Bool → List ℕ → Bool
gapless ended [] = true
gapless ended (x ∷ xs) = not (ended && not (eqb x 0)) && gapless (eqb x 0) xs

-- after a zero there are zeros alone
zeros-alone : (xs : List ℕ) → gapless true xs ≡ all_zero xs
zeros-alone [] = refl
zeros-alone (x ∷ xs) = rw (eqb-sym 0 x) (go (eqb x 0) (zeros-alone xs))
  where
    go : (b : Bool) → gapless true xs ≡ all_zero xs → not (true && not b) && gapless b xs ≡ b && all_zero xs
    go true e = e
    go false e = refl

-- either a list has zeros alone, or the first number that it has is none
abbrev ZerosOrMore : List ℕ → List ℕ → Type 0
ZerosOrMore xs s = ((all_zero xs ≡ true) × (s ≡ [])) ⊎ ((all_zero xs ≡ false) × (head_of s ≢ 0))

zeros-or-more : (xs : List ℕ) → ZerosOrMore xs (given xs)
zeros-or-more [] = inl (refl, refl)
zeros-or-more (x ∷ xs) = rw (eqb-sym 0 x) (go (eqb x 0) refl (zeros-or-more xs))
  where
    go : (b : Bool) → eqb x 0 ≡ b → ZerosOrMore xs (given xs)
        → ((b && all_zero xs ≡ true) × (keep (not b) x (given xs) ≡ [])) ⊎ ((b && all_zero xs ≡ false) × (head_of (keep (not b) x (given xs)) ≢ 0))
    go true e h = h
    go false e h = inr (refl, eqb-false x 0 e)

-- how many zeros follow does not matter, if they are enough
any-zeros : (s : List ℕ) (n a b : ℕ) → n ≤ a → n ≤ b → take n (s ++ zeros a) ≡ take n (s ++ zeros b)
any-zeros s zero a b h k = refl
any-zeros [] (suc n) a b h k = take-zeros (suc n) a h ∙ sym (take-zeros (suc n) b k)
any-zeros (x ∷ s) (suc n) a b h k = ap (λ (xs : List ℕ). x ∷ xs) (any-zeros s n a b (omega arith) (omega arith))

same-zeros : (xs : List ℕ) → same xs (take (length xs) (zeros (length xs))) ≡ all_zero xs
same-zeros [] = refl
same-zeros (x ∷ xs) = rw (eqb-sym 0 x, same-zeros xs)

after-zero : (xs s : List ℕ) → ZerosOrMore xs s → same (0 ∷ xs) (padded (suc (length xs)) s) ≡ all_zero xs
after-zero xs s (inl h) = rw h.1 (same-zeros xs)
after-zero xs [] (inr h) = absurd (h.1 refl)
after-zero xs (y ∷ s) (inr h) = rw (ne_eqb 0 y (λ e. h.1 (sym e)), h.0)

-- so the numbers stand first, and then zeros
gapless-same : (xs : List ℕ) → gapless false xs ≡ same xs (padded (length xs) (given xs))
gapless-same [] = refl
gapless-same (x ∷ xs) = go (eqb x 0) refl (gapless-same xs)
  where
    go : (b : Bool) → eqb x 0 ≡ b → gapless false xs ≡ same xs (padded (length xs) (given xs))
        → not (false && not b) && gapless b xs ≡ same (x ∷ xs) (padded (suc (length xs)) (keep (not b) x (given xs)))
    go true e h = rw (eqb-true x 0 e) (zeros-alone xs ∙ sym (after-zero xs (given xs) (zeros-or-more xs)))
    go false e h = h ∙ rw (eq-eqb x x refl, any-zeros (given xs) (length xs) (suc (length xs)) (length xs) (omega arith) (omega arith))

pub gap-all : (a : List ℕ) (n : ℕ) → length a ≡ n → Over (gapless false) a 0 (same a (padded n (given a)))
gap-all a n long = record { rest = rw (← long) (sym (gapless-same a)); high = omega arith }

module _ (ended : Bool) (a : List ℕ) (i : ℕ) {whole : Bool} (over : Over (gapless ended) a i whole) (n : ℕ) (long : length a ≡ n) where
  module _ (h : i < n) (t : ℕ) (here : t ≡ a ! i) where
    pub gap-stop : ended && not (eqb t 0) ≡ true → false ≡ whole
    gap-stop e = sym (over-here over (omega arith) ∙ rw (← here, e))

    pub gap_more : ended && not (eqb t 0) ≡ false → Over (gapless (eqb t 0)) a (i + 1) whole
    gap_more e = over-more over (gapless (eqb t 0)) (omega arith) (rw (← here, e))

  pub gap-done : n ≤ i → true ≡ whole
  gap-done h = sym (over_done over (omega arith))
