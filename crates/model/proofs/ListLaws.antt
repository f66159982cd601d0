-- Laws of the functions on lists and of the tests that the definitions are made of (`specs/Lists.antt`). Assumes nothing.
use Prim.Native.Nat.{ℕ, zero, suc, ◌+◌, ◌≤◌, ◌<◌}
use native.Mathlib.Decide.{ℕ_discrete}
use native.Mathlib.Omega.{arith}
use mathlib.Core.Path.{◌≡◌, ◌∙◌, refl, sym, ap}
use mathlib.Core.Logic.{◌≢◌, ◌⊎◌, inl, inr}
use mathlib.Core.Bool.{Bool, true, false, ◌&&◌, ◌||◌, not, cond, false≢true, and-false}
use mathlib.Core.List.{List, [], ◌∷◌, ◌++◌, map}
use lib.ListN.{length, get_or, take}
use lib.Dec.{eqb, ltb}
use borrow.Author.Tests.{eqb-true, eq-eqb, ne_eqb, lt-ltb}
use Rattle.model.specs.Lists.{◌!◌, count_from, any, place_where, member, keep, select, without, occurrences, zeros}

-- ---- tests

pub or_elim : (a b : Bool) → a || b ≡ true → (a ≡ true) ⊎ (b ≡ true)
or_elim true b e = inl refl
or_elim false b e = inr e

pub or_right : (a b : Bool) → b ≡ true → a || b ≡ true
or_right true b e = refl
or_right false b e = e

pub or_left : (a b : Bool) → a ≡ true → a || b ≡ true
or_left true b e = refl
or_left false b e = absurd (false≢true e)

-- what holds of a choice: by its test, and where it holds of both
pub by-test : {A : Type 0} (P : A → Type 0) (b : Bool) {x y : A} → (b ≡ true → P x) → (b ≡ false → P y) → P (cond b x y)
by-test P true f g = f refl
by-test P false f g = g refl

pub either : {A : Type 0} (P : A → Type 0) (b : Bool) {x y : A} → P x → P y → P (cond b x y)
either P b h i = by-test P b (λ e. h) (λ e. i)

-- two tests that hold together are the same
pub bool-ext : (a b : Bool) → (a ≡ true → b ≡ true) → (b ≡ true → a ≡ true) → a ≡ b
bool-ext true b f g = sym (f refl)
bool-ext false true f g = g refl
bool-ext false false f g = refl

pub eqb-sym : (m n : ℕ) → eqb m n ≡ eqb n m
eqb-sym m n = bool-ext (eqb m n) (eqb n m) (λ e. eq-eqb n m (sym (eqb-true m n e))) (λ e. eq-eqb m n (sym (eqb-true n m e)))

-- ---- lists of numbers

pub take-zeros : (n m : ℕ) → n ≤ m → take n (zeros m) ≡ zeros n
take-zeros zero m h = refl
take-zeros (suc n) zero h = absurd (omega arith)
take-zeros (suc n) (suc m) h = ap (λ (l : List ℕ). 0 ∷ l) (take-zeros n m (omega arith))

-- what stands in two lists joined
pub member-append : (u : ℕ) (xs ys : List ℕ) → member u (xs ++ ys) ≡ true → (member u xs ≡ true) ⊎ (member u ys ≡ true)
member-append u [] ys e = inr e
member-append u (x ∷ xs) ys e = go (or_elim (eqb u x) (member u (xs ++ ys)) e) (member-append u xs ys)
  where
    pick : (member u xs ≡ true) ⊎ (member u ys ≡ true) → (eqb u x || member u xs ≡ true) ⊎ (member u ys ≡ true)
    pick (inl r) = inl (or_right (eqb u x) (member u xs) r)
    pick (inr r) = inr r

    go : (eqb u x ≡ true) ⊎ (member u (xs ++ ys) ≡ true) → (member u (xs ++ ys) ≡ true → (member u xs ≡ true) ⊎ (member u ys ≡ true))
        → (eqb u x || member u xs ≡ true) ⊎ (member u ys ≡ true)
    go (inl q) rest = inl (or_left (eqb u x) (member u xs) q)
    go (inr q) rest = pick (rest q)

pub member-left : (u : ℕ) (xs ys : List ℕ) → member u xs ≡ true → member u (xs ++ ys) ≡ true
member-left u [] ys e = absurd (false≢true e)
member-left u (x ∷ xs) ys e = go (or_elim (eqb u x) (member u xs) e) (member-left u xs ys)
  where
    go : (eqb u x ≡ true) ⊎ (member u xs ≡ true) → (member u xs ≡ true → member u (xs ++ ys) ≡ true) → eqb u x || member u (xs ++ ys) ≡ true
    go (inl q) rest = or_left (eqb u x) (member u (xs ++ ys)) q
    go (inr q) rest = or_right (eqb u x) (member u (xs ++ ys)) (rest q)

pub member_right : (u : ℕ) (xs ys : List ℕ) → member u ys ≡ true → member u (xs ++ ys) ≡ true
member_right u [] ys e = e
member_right u (x ∷ xs) ys e = or_right (eqb u x) (member u (xs ++ ys)) (member_right u xs ys e)

pub member-middle : (u : ℕ) (xs ys : List ℕ) → member u (xs ++ u ∷ ys) ≡ true
member-middle u [] ys = or_left (eqb u u) (member u ys) (eq-eqb u u refl)
member-middle u (x ∷ xs) ys = or_right (eqb u x) (member u (xs ++ u ∷ ys)) (member-middle u xs ys)

-- a number stands in a list where it is counted there
pub member-counted : (u : ℕ) (xs : List ℕ) → member u xs ≡ ltb 0 (occurrences u xs)
member-counted u [] = refl
member-counted u (x ∷ xs) = go (eqb u x) (member-counted u xs)
  where
    go : (b : Bool) → member u xs ≡ ltb 0 (occurrences u xs) → b || member u xs ≡ ltb 0 (length (keep b x (select (eqb u) xs)))
    go true rest = sym (lt-ltb 0 (length (x ∷ select (eqb u) xs)) (omega arith))
    go false rest = rest

-- an entry that is not 0 is within the list
pub entry-inside : (xs : List ℕ) (i : ℕ) → xs ! i ≢ 0 → i < length xs
entry-inside [] i h = absurd (h refl)
entry-inside (x ∷ xs) zero h = omega arith
entry-inside (x ∷ xs) (suc i) h = omega (arith, entry-inside xs i h)

-- the entries of a list stand in it, and nothing else
pub entry-member : (xs : List ℕ) (i : ℕ) → xs ! i ≢ 0 → member (xs ! i) xs ≡ true
entry-member [] i h = absurd (h refl)
entry-member (x ∷ xs) zero h = or_left (eqb x x) _ (eq-eqb x x refl)
entry-member (x ∷ xs) (suc i) h = or_right (eqb (xs ! i) x) _ (entry-member xs i h)

pub member-entry : (u : ℕ) (xs : List ℕ) → member u xs ≡ true → (i : ℕ) × (xs ! i ≡ u)
member-entry u [] e = absurd (false≢true e)
member-entry u (x ∷ xs) e = go (or_elim (eqb u x) _ e) (member-entry u xs)
  where
    go : (eqb u x ≡ true) ⊎ (member u xs ≡ true) → (member u xs ≡ true → (i : ℕ) × (xs ! i ≡ u)) → (i : ℕ) × ((x ∷ xs) ! i ≡ u)
    go (inl q) rest = (0, sym (eqb-true u x q))
    go (inr q) rest = (suc (rest q).0, (rest q).1)

-- who is selected passes and was there, and nobody else is
pub select-member : (p : ℕ → Bool) (m : ℕ) (xs : List ℕ) → member m (select p xs) ≡ p m && member m xs
select-member p m [] = sym (and-false (p m))
select-member p m (x ∷ xs) = go (p x) refl (ℕ_discrete m x) (select-member p m xs)
  where
    go : (b : Bool) → p x ≡ b → Dec (m ≡ x) → member m (select p xs) ≡ p m && member m xs → member m (keep b x (select p xs)) ≡ p m && (eqb m x || member m xs)
    go true e (yes q) rest = rw (q, e, eq-eqb x x refl)
    go false e (yes q) rest = rest ∙ rw (q, e)
    go true e (no d) rest = rw (ne_eqb m x d) rest
    go false e (no d) rest = rw (ne_eqb m x d) rest

-- two tests select the same of a list if they agree on it
pub select-same : (p q : ℕ → Bool) (ts : List ℕ) → ((u : ℕ) → member u ts ≡ true → p u ≡ q u) → select p ts ≡ select q ts
select-same p q [] h = refl
select-same p q (t ∷ ts) h = rw (h t (or_left (eqb t t) _ (eq-eqb t t refl)), select-same p q ts (λ u m. h u (or_right (eqb u t) _ m)))

-- a list in which all pass is chosen as it is
pub select-every : (p : ℕ → Bool) (xs : List ℕ) → ((u : ℕ) → member u xs ≡ true → p u ≡ true) → select p xs ≡ xs
select-every p [] h = refl
select-every p (x ∷ xs) h =
    rw (h x (or_left (eqb x x) _ (eq-eqb x x refl)), select-every p xs (λ u m. h u (or_right (eqb u x) _ m)))

-- two tests choose the same, whichever is asked first
pub select-swap : (p q : ℕ → Bool) (xs : List ℕ) → select p (select q xs) ≡ select q (select p xs)
select-swap p q [] = refl
select-swap p q (x ∷ xs) = go (p x) (q x) refl refl (select-swap p q xs)
  where
    go : (b c : Bool) → p x ≡ b → q x ≡ c → select p (select q xs) ≡ select q (select p xs)
        → select p (keep c x (select q xs)) ≡ select q (keep b x (select p xs))
    go true true e f rest = rw (e, f, rest)
    go true false e f rest = rw (f, rest)
    go false true e f rest = rw (e, rest)
    go false false e f rest = rest

-- how many are chosen: no more than there are
pub length-keep : (b : Bool) (x : ℕ) (xs : List ℕ) → length (keep b x xs) ≡ cond b 1 0 + length xs
length-keep true x xs = omega arith
length-keep false x xs = omega arith

pub length-select : (p : ℕ → Bool) (xs : List ℕ) → length (select p xs) ≤ length xs
length-select p [] = omega arith
length-select p (x ∷ xs) = go (p x) (length-select p xs)
  where
    go : (b : Bool) → length (select p xs) ≤ length xs → length (keep b x (select p xs)) ≤ suc (length xs)
    go true h = omega arith
    go false h = omega arith

-- a list without a number that it does not have is the same
pub without-none : (t : ℕ) (xs : List ℕ) → member t xs ≢ true → without t xs ≡ xs
without-none t xs h = select-every (λ y. not (eqb t y)) xs (λ u m. rw (ne_eqb t u (λ e. h (rw e m))))

-- a list without one of its numbers: the others stay, and it is shorter
pub without-keeps : (a z : ℕ) (xs : List ℕ) → z ≢ a → member z xs ≡ true → member z (without a xs) ≡ true
without-keeps a z [] h e = e
without-keeps a z (y ∷ ys) h e = go (eqb a y) refl (or_elim (eqb z y) (member z ys) e) (without-keeps a z ys h)
  where
    go : (b : Bool) → eqb a y ≡ b → (eqb z y ≡ true) ⊎ (member z ys ≡ true) → (member z ys ≡ true → member z (without a ys) ≡ true)
        → member z (keep (not b) y (without a ys)) ≡ true
    go true f (inl g) rest = absurd (h (eqb-true z y g ∙ sym (eqb-true a y f)))
    go true f (inr g) rest = rest g
    go false f (inl g) rest = or_left (eqb z y) _ g
    go false f (inr g) rest = or_right (eqb z y) _ (rest g)

pub without-shorter : (a : ℕ) (xs : List ℕ) → member a xs ≡ true → length (without a xs) < length xs
without-shorter a [] e = absurd (false≢true e)
without-shorter a (y ∷ ys) e = go (eqb a y) refl (or_elim (eqb a y) (member a ys) e) (without-shorter a ys)
  where
    go : (b : Bool) → eqb a y ≡ b → (eqb a y ≡ true) ⊎ (member a ys ≡ true) → (member a ys ≡ true → length (without a ys) < length ys)
        → length (keep (not b) y (without a ys)) < suc (length ys)
    go true f g rest = let h = length-select (λ y. not (eqb a y)) ys in omega arith
    go false f (inl g) rest = absurd (false≢true (sym f ∙ g))
    go false f (inr g) rest = let h = rest g in omega arith

pub length-count_from : (a n : ℕ) → length (count_from a n) ≡ n
length-count_from a zero = refl
length-count_from a (suc n) = ap suc (length-count_from (suc a) n)

pub member-count_from : (a n y : ℕ) → a ≤ y → y < a + n → member y (count_from a n) ≡ true
member-count_from a zero y low high = absurd (omega arith)
member-count_from a (suc n) y low high = go (ℕ_discrete y a) (member-count_from (suc a) n y)
  where
    go : Dec (y ≡ a) → (suc a ≤ y → y < suc a + n → member y (count_from (suc a) n) ≡ true) → member y (count_from a (suc n)) ≡ true
    go (yes e) rest = or_left (eqb y a) _ (eq-eqb y a e)
    go (no f) rest = or_right (eqb y a) _ (rest (omega arith) (omega arith))

-- an entry of a list that is made number by number
pub mapped_at : {A : Type 0} (f : ℕ → A) (a n i : ℕ) (d : A) → i < n → get_or (map f (count_from a n)) i d ≡ f (a + i)
mapped_at f a zero i d h = absurd (omega arith)
mapped_at f a (suc n) zero d h = ap f (omega arith)
mapped_at f a (suc n) (suc i) d h = mapped_at f (suc a) n i d (omega arith) ∙ ap f (omega arith)

-- two functions that agree from a on make the same list there
pub map-agree : {A : Type 0} (f g : ℕ → A) (a n : ℕ) → ((x : ℕ) → a ≤ x → x < a + n → f x ≡ g x) → map f (count_from a n) ≡ map g (count_from a n)
map-agree f g a zero h = refl
map-agree f g a (suc n) h = rw (h a (omega arith) (omega arith), map-agree f g (suc a) n (λ x low high. h x (omega arith) (omega arith)))

-- the same of what two tests choose, if the tests agree, and the functions where the tests hold
pub select-agree : (p q : ℕ → Bool) (f g : ℕ → ℕ) → ((x : ℕ) → p x ≡ q x) → ((x : ℕ) → p x ≡ true → f x ≡ g x) → (xs : List ℕ)
    → map f (select p xs) ≡ map g (select q xs)
select-agree p q f g tests values [] = refl
select-agree p q f g tests values (x ∷ xs) = rw (← tests x) (go (p x) refl (select-agree p q f g tests values xs))
  where
    go : (b : Bool) → p x ≡ b → map f (select p xs) ≡ map g (select q xs) → map f (keep b x (select p xs)) ≡ map g (keep b x (select q xs))
    go true e rest = rw (values x e, rest)
    go false e rest = rest

-- some number of a list passes a test
pub some-passes : (p : ℕ → Bool) (n : ℕ) (xs : List ℕ) → p n ≡ true → member n xs ≡ true → any p xs ≡ true
some-passes p n [] e m = m
some-passes p n (x ∷ xs) e m = go (or_elim (eqb n x) (member n xs) m) (some-passes p n xs e)
  where
    go : (eqb n x ≡ true) ⊎ (member n xs ≡ true) → (member n xs ≡ true → any p xs ≡ true) → p x || any p xs ≡ true
    go (inl q) rest = or_left (p x) (any p xs) (rw (← eqb-true n x q) e)
    go (inr q) rest = or_right (p x) (any p xs) (rest q)

-- ---- searches, by the entries of a list

module _ {A : Type 0} (p : A → Bool) (d : A) where
  pub first-at : (xs : List A) (i : ℕ) → i < length xs → p (get_or xs i d) ≡ true → ((j : ℕ) → j < i → p (get_or xs j d) ≡ false) → place_where p xs ≡ i
  first-at [] i h e before = absurd (omega arith)
  first-at (x ∷ xs) zero h e before = rw (e, place_where)
  first-at (x ∷ xs) (suc i) h e before = rw (before 0 (omega arith), place_where) (ap suc (first-at xs i (omega arith) e (λ j l. before (suc j) (omega arith))))

  pub some_at : (xs : List A) (i : ℕ) → i < length xs → p (get_or xs i d) ≡ true → any p xs ≡ true
  some_at [] i h e = absurd (omega arith)
  some_at (x ∷ xs) zero h e = or_left (p x) _ e
  some_at (x ∷ xs) (suc i) h e = or_right (p x) _ (some_at xs i (omega arith) e)

  pub none-at : (xs : List A) → ((i : ℕ) → i < length xs → p (get_or xs i d) ≡ false) → any p xs ≡ false
  none-at [] h = refl
  none-at (x ∷ xs) h = rw (h 0 (omega arith)) (none-at xs (λ i l. h (suc i) (omega arith)))
