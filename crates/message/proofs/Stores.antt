-- Stores of a list's elements from a place on, `sets` of `lib.Seq`: what lies beyond the end is left out. And a loop
-- and the library's calls that store them. Assumes nothing.
use Prim.Native.Nat.{ℕ, zero, suc, ◌+◌, ◌-◌, ◌≤◌, ◌<◌, min}
use native.Mathlib.Decide.{dec_le}
use native.Mathlib.Nat.{add-suc, suc-add, add-zero, zero-add}
use native.Mathlib.Numerals.{add-one}
use native.Mathlib.Omega.{arith}
use mathlib.Core.List.{List, [], ◌∷◌, ◌++◌, append-nil}
use mathlib.Core.Path.{◌≡◌, ◌∙◌, refl, sym, ap}
use lib.ListN.{length, get_or, take, drop, set, length-set, length-append, length-drop, drop_of_length-le}
use Rattle.model.specs.Message.{over, overwritten}
use lib.Seq.{sets, set_out, take_all, take-length, drop-cons}

-- beyond the end nothing is stored
pub sets-out : (xs l : List ℕ) (i : ℕ) → length l ≤ i → sets l i xs ≡ l
sets-out [] l i h = refl
sets-out (x ∷ xs) l i h = rw (set_out l i x h) (sets-out xs l (suc i) (omega arith))

-- one list after another
pub sets-append : (xs ys l : List ℕ) (i : ℕ) → sets l i (xs ++ ys) ≡ sets (sets l i xs) (i + length xs) ys
sets-append [] ys l i = rw add-zero
sets-append (x ∷ xs) ys l i = rw (add-suc, ← suc-add) (sets-append xs ys (set l i x) (suc i))

-- behind the first element, and behind the first few: the stores are those of the rest
sets-cons : (xs l : List ℕ) (y i : ℕ) → sets (y ∷ l) (suc i) xs ≡ y ∷ sets l i xs
sets-cons [] l y i = refl
sets-cons (x ∷ xs) l y i = sets-cons xs (set l i x) y (suc i)

pub sets_behind : (a : ℕ) (xs l : List ℕ) → sets l a xs ≡ take a l ++ sets (drop a l) 0 xs
sets_behind zero xs l = refl
sets_behind (suc a) xs [] = sets-out xs [] (suc a) (omega arith) ∙ sym (sets-out xs [] 0 (omega arith))
sets_behind (suc a) xs (y ∷ l) = sets-cons xs l y a ∙ ap (λ (r : List ℕ). y ∷ r) (sets_behind a xs l)

-- a list that is stored over the whole of another takes its place
pub sets-whole : (xs l : List ℕ) → length xs ≡ length l → sets l 0 xs ≡ xs
sets-whole [] [] e = refl
sets-whole [] (y ∷ l) e = absurd (omega (arith, e))
sets-whole (x ∷ xs) [] e = absurd (omega (arith, e))
sets-whole (x ∷ xs) (y ∷ l) e = sets-cons xs l x 0 ∙ ap (λ (r : List ℕ). x ∷ r) (sets-whole xs l (omega (arith, e)))

-- Stores as the definitions say them: what was before, the elements, what was behind, and no more than there was room for.
pub sets-front : (xs l : List ℕ) → take (length l) (xs ++ drop (length xs) l) ≡ sets l 0 xs
sets-front [] l = take-length l
sets-front (x ∷ xs) [] = sym (sets-out (x ∷ xs) [] 0 (omega arith))
sets-front (x ∷ xs) (y ∷ l) = ap (λ (r : List ℕ). x ∷ r) (sets-front xs l) ∙ sym (sets-cons xs l x 0)

pub sets-clipped : (xs l : List ℕ) (i : ℕ) → take (length l) (take i l ++ xs ++ drop (i + length xs) l) ≡ sets l i xs
sets-clipped xs l zero = rw zero-add (sets-front xs l)
sets-clipped xs [] (suc i) = sym (sets-out xs [] (suc i) (omega arith))
sets-clipped xs (y ∷ l) (suc i) = rw suc-add (ap (λ (r : List ℕ). y ∷ r) (sets-clipped xs l i) ∙ sym (sets-cons xs l y i))

-- what the definitions put over an area is stored there, whatever the place
pub overwritten-sets : (l : List ℕ) (i : ℕ) (xs : List ℕ) → overwritten l i xs ≡ sets l i xs
unfolding over overwritten
overwritten-sets l i xs = sets-clipped xs l i

-- a list that is stored over the whole of a shorter one, as far as that reaches
pub sets_over : (xs l : List ℕ) → length l ≤ length xs → sets l 0 xs ≡ take (length l) xs
sets_over xs l h = sym (sets-front xs l) ∙ rw (drop_of_length-le l h, append-nil)

-- stores that stay within the first of two lists
pub sets_first : (xs l r : List ℕ) → length xs ≤ length l → sets (l ++ r) 0 xs ≡ sets l 0 xs ++ r
sets_first [] l r h = refl
sets_first (x ∷ xs) [] r h = absurd (omega arith)
sets_first (x ∷ xs) (y ∷ l) r h =
    sets-cons xs (l ++ r) x 0 ∙ ap (λ (k : List ℕ). x ∷ k) (sets_first xs l r (omega arith)) ∙ ap (λ (k : List ℕ). k ++ r) (sym (sets-cons xs l x 0))

-- stores into the last part of a list, lent by itself
pub sets-lent : (xs l : List ℕ) (a : ℕ) → take a l ++ (sets (take (length l - a) (drop a l)) 0 xs ++ drop (length l - a) (drop a l)) ≡ sets l a xs
sets-lent xs l a =
    let all : length (drop a l) ≤ length l - a = rw length-drop (omega arith) in
    rw (take_all (length l - a) (drop a l) all, drop_of_length-le (drop a l) all, append-nil) (sym (sets_behind a xs l))

-- What a loop has still to store of xs from `at` on, into what was r₀ at its beginning and is r after i stores.
pub record LeftToStore (xs : List ℕ) (at : ℕ) (r₀ r : List ℕ) (i : ℕ) : Type 0 where
  pub size : length r ≡ length r₀
  pub rest : sets r (at + i) (drop i xs) ≡ sets r₀ at xs

module _ {xs : List ℕ} {at : ℕ} {r₀ : List ℕ} where
  pub left-all : LeftToStore xs at r₀ r₀ 0
  left-all = record { size = refl; rest = rw add-zero }

  pub left-turn : {r : List ℕ} {i v : ℕ} → LeftToStore xs at r₀ r i → i < length xs → get_or xs i 0 ≡ v → LeftToStore xs at r₀ (set r (at + i) v) (i + 1)
  left-turn {r} {i} {v} l h e =
      record {
        size = length-set r (at + i) v ∙ l.size;
        rest = rw (add-one, add-suc, ← e) (rw (drop-cons xs i 0 h) at l.rest);
      }

  pub left-none : {r : List ℕ} {i : ℕ} → LeftToStore xs at r₀ r i → min (length xs) (length r₀ - at) ≤ i → r ≡ sets r₀ at xs
  left-none {r} {i} l h = go (dec_le (length xs) i) ∙ l.rest
    where
      go : Dec (length xs ≤ i) → r ≡ sets r (at + i) (drop i xs)
      go (yes p) = rw (drop_of_length-le xs p)
      go (no p) = sym (sets-out (drop i xs) r (at + i) (let s = l.size in omega arith))

-- what a library's call has written from a place on: as much of the elements as there is room for
sets-room : (xs r ys : List ℕ) {k : ℕ} → k ≡ min (length xs) (length r) → ys ≡ take k xs → ys ++ drop k r ≡ sets r 0 xs
sets-room xs r ys {k} e q = go (dec_le (length xs) (length r))
  where
    go : Dec (length xs ≤ length r) → ys ++ drop k r ≡ sets r 0 xs
    go (yes h) =
        let whole : k ≡ length xs = omega arith in
        let fits : length (xs ++ drop (length xs) r) ≤ length r = rw (length-append, length-drop) (omega arith) in
        rw (q, whole, take-length) (sym (take_all (length r) (xs ++ drop (length xs) r) fits) ∙ sets-front xs r)
    go (no h) =
        let all : k ≡ length r = omega arith in
        rw (q, all, drop_of_length-le r {i = length r} (omega arith), append-nil) (sym (sets_over xs r (omega arith)))

pub sets-part : (xs l : List ℕ) (at k : ℕ) {ys : List ℕ} → k ≡ min (length xs) (length l - at) → ys ≡ take k xs
    → take at l ++ (ys ++ drop k (drop at l)) ≡ sets l at xs
sets-part xs l at k {ys} e q =
    let room : k ≡ min (length xs) (length (drop at l)) = rw length-drop e in
    ap (λ (r : List ℕ). take at l ++ r) (sets-room xs (drop at l) ys room q) ∙ sym (sets_behind at xs l)
