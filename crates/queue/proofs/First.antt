-- The first of any queue. Assumes nothing.
use Prim.Native.Nat.{ℕ, suc, ◌≤◌, ◌<◌}
use native.Mathlib.Omega.{arith}
use mathlib.Core.Path.{◌≡◌, ◌∙◌, refl, sym, ap, subst}
use mathlib.Core.Logic.{◌≢◌, ◌⊎◌, inl, inr}
use mathlib.Core.Bool.{Bool, true, false, cond, false≢true}
use mathlib.Core.List.{List, [], ◌∷◌, ◌++◌, foldl, append_assoc, append-nil}
use lib.ListN.{length}
use lib.Dec.{eqb, leb, ltb}
use borrow.Author.Tests.{leb-true, leb-false, ltb-true, ltb-false, eqb-true, eq-eqb, ne_eqb}
use Rattle.model.specs.Lists.{◌!◌, member, head_of}
use Rattle.model.specs.Facts.{Facts, Queue}
use Rattle.model.specs.Queue.{by_priority, insert, sorted, ordered, order, front}
use Rattle.queue.specs.Better.{better}
use Rattle.model.proofs.ListLaws.{or_elim, or_left, or_right, member-append, member-middle}

module _ (current : List ℕ) where
  -- A task is the first of tasks that stand as they arrived, by priority: all that arrived before it are less urgent, none that arrived after it is more
  -- urgent.
  pub record First (ts : List ℕ) (t : ℕ) : Type 0 where
    pub before : List ℕ
    pub behind : List ℕ
    pub split : ts ≡ before ++ t ∷ behind
    pub earlier : (u : ℕ) → member u before ≡ true → current ! t < current ! u
    pub later : (u : ℕ) → member u behind ≡ true → current ! t ≤ current ! u

  -- no task is more urgent than the first
  pub first-urgent : {ts : List ℕ} {t : ℕ} → First ts t → (u : ℕ) → member u ts ≡ true → current ! t ≤ current ! u
  first-urgent {ts} {t} f u e = go (member-append u f.before (t ∷ f.behind) (subst (λ (l : List ℕ). member u l ≡ true) f.split e))
    where
      there : (eqb u t ≡ true) ⊎ (member u f.behind ≡ true) → current ! t ≤ current ! u
      there (inl q) = rw (eqb-true u t q) (omega arith)
      there (inr q) = f.later u q

      go : (member u f.before ≡ true) ⊎ (member u (t ∷ f.behind) ≡ true) → current ! t ≤ current ! u
      go (inl q) = let h = f.earlier u q in omega arith
      go (inr q) = there (or_elim (eqb u t) (member u f.behind) q)

  -- one more task that arrived before all the others
  first-cons : (t h : ℕ) {ts : List ℕ} → First ts h → First (t ∷ ts) (cond (leb (current ! t) (current ! h)) t h)
  first-cons t h {ts} f = go (leb (current ! t) (current ! h)) refl
    where
      go : (b : Bool) → leb (current ! t) (current ! h) ≡ b → First (t ∷ ts) (cond b t h)
      go true e =
          record {
            before = [];
            behind = ts;
            split = refl;
            earlier = λ u q. absurd (false≢true q);
            later = λ u q. let a = leb-true (current ! t) (current ! h) e in let b = first-urgent f u q in omega arith;
          }
      go false e =
          record {
            before = t ∷ f.before;
            behind = f.behind;
            split = ap (λ (l : List ℕ). t ∷ l) f.split;
            earlier = λ u q. earlier u (or_elim (eqb u t) (member u f.before) q);
            later = f.later;
          }
        where
          earlier : (u : ℕ) → (eqb u t ≡ true) ⊎ (member u f.before ≡ true) → current ! h < current ! u
          earlier u (inl q) = rw (eqb-true u t q) (leb-false (current ! t) (current ! h) e)
          earlier u (inr q) = f.earlier u q

  -- ---- the first of the sorted list

  insert-head : (t u : ℕ) (us : List ℕ) → head_of (insert current t (u ∷ us)) ≡ cond (leb (current ! t) (current ! u)) t u
  insert-head t u us = go (leb (current ! t) (current ! u)) refl
    where
      go : (b : Bool) → leb (current ! t) (current ! u) ≡ b → head_of (insert current t (u ∷ us)) ≡ cond b t u
      go true e = rw (e, insert)
      go false e = rw (e, insert)

  length-insert : (t : ℕ) (us : List ℕ) → length (insert current t us) ≡ suc (length us)
  length-insert t [] = refl
  length-insert t (u ∷ us) = go (leb (current ! t) (current ! u)) refl (length-insert t us)
    where
      go : (b : Bool) → leb (current ! t) (current ! u) ≡ b → length (insert current t us) ≡ suc (length us)
          → length (insert current t (u ∷ us)) ≡ suc (suc (length us))
      go true e rest = rw (e, insert)
      go false e rest = rw (e, insert) (ap suc rest)

  sorted_head : (t u : ℕ) (us : List ℕ)
      → head_of (sorted current (t ∷ u ∷ us)) ≡ cond (leb (current ! t) (current ! head_of (sorted current (u ∷ us)))) t (head_of (sorted current (u ∷ us)))
  sorted_head t u us = go (sorted current (u ∷ us)) refl
    where
      go : (s : List ℕ) → sorted current (u ∷ us) ≡ s → head_of (insert current t s) ≡ cond (leb (current ! t) (current ! head_of s)) t (head_of s)
      go [] e = let n = length-insert u (sorted current us) in let z = ap length e in absurd (omega arith)
      go (h ∷ s) e = insert-head t h s

  pub sorted-first : (t : ℕ) (ts : List ℕ) → First (t ∷ ts) (head_of (sorted current (t ∷ ts)))
  sorted-first t [] = record { before = []; behind = []; split = refl; earlier = λ u q. absurd (false≢true q); later = λ u q. absurd (false≢true q) }
  sorted-first t (u ∷ us) = rw (sorted_head t u us) (first-cons t _ (sorted-first u us))

  -- ---- the first found by one pass over the tasks as they arrived

  -- one more task that arrived after all the others
  pub last-first : (b t : ℕ) {ts : List ℕ} → First ts b → First (ts ++ t ∷ []) (cond (ltb (current ! t) (current ! b)) t b)
  last-first b t {ts} f = go (ltb (current ! t) (current ! b)) refl
    where
      go : (c : Bool) → ltb (current ! t) (current ! b) ≡ c → First (ts ++ t ∷ []) (cond c t b)
      go true e =
          record {
            before = ts;
            behind = [];
            split = refl;
            earlier = λ u q. let l = ltb-true (current ! t) (current ! b) e in let k = first-urgent f u q in omega arith;
            later = λ u q. absurd (false≢true q);
          }
      go false e =
          record {
            before = f.before;
            behind = f.behind ++ t ∷ [];
            split = rw (f.split, append_assoc);
            earlier = f.earlier;
            later = λ u q. later u (member-append u f.behind (t ∷ []) q);
          }
        where
          last : (u : ℕ) → (eqb u t ≡ true) ⊎ (false ≡ true) → current ! b ≤ current ! u
          last u (inl q) = rw (eqb-true u t q) (ltb-false (current ! t) (current ! b) e)
          last u (inr q) = absurd (false≢true q)

          later : (u : ℕ) → (member u f.behind ≡ true) ⊎ (member u (t ∷ []) ≡ true) → current ! b ≤ current ! u
          later u (inl q) = f.later u q
          later u (inr q) = last u (or_elim (eqb u t) false q)

  better-first : (b t : ℕ) {ts : List ℕ} → b ≢ 0 → First ts b → First (ts ++ t ∷ []) (better current b t)
  better-first b t h f = rw (ne_eqb b 0 h) (last-first b t f)

  -- of the same tasks there is one first: of two, the later one would be more urgent than the earlier, and not
  apart : (a b y : ℕ) (ys us vs : List ℕ) → a ≡ y → us ≡ ys ++ b ∷ vs
      → ((u : ℕ) → member u us ≡ true → current ! a ≤ current ! u) → ((u : ℕ) → member u (y ∷ ys) ≡ true → current ! b < current ! u) → ⊥
  apart a b y ys us vs e d q r =
      let k = q b (subst (λ (l : List ℕ). member b l ≡ true) (sym d) (member-middle b ys vs)) in
      let m = r a (or_left (eqb a y) _ (eq-eqb a y e)) in
      omega arith

  split-unique : (xs ys : List ℕ) (a b : ℕ) (us vs : List ℕ) → xs ++ a ∷ us ≡ ys ++ b ∷ vs
      → ((u : ℕ) → member u xs ≡ true → current ! a < current ! u) → ((u : ℕ) → member u us ≡ true → current ! a ≤ current ! u)
      → ((u : ℕ) → member u ys ≡ true → current ! b < current ! u) → ((u : ℕ) → member u vs ≡ true → current ! b ≤ current ! u) → a ≡ b
  split-unique [] [] a b us vs e p q r s = cc
  split-unique [] (y ∷ ys) a b us vs e p q r s = absurd (apart a b y ys us vs (cc) (cc) q r)
  split-unique (x ∷ xs) [] a b us vs e p q r s = absurd (apart b a x xs vs us (cc) (cc) s p)
  split-unique (x ∷ xs) (y ∷ ys) a b us vs e p q r s =
      split-unique xs ys a b us vs (cc) (λ u m. p u (or_right (eqb u x) _ m)) q (λ u m. r u (or_right (eqb u y) _ m)) s

  pub first-unique : {ts : List ℕ} {a b : ℕ} → First ts a → First ts b → a ≡ b
  first-unique {ts} {a} {b} f g =
      split-unique f.before g.before a b f.behind g.behind (sym f.split ∙ g.split) f.earlier f.later g.earlier g.later

  better-there : (b t : ℕ) → b ≢ 0 → t ≢ 0 → better current b t ≢ 0
  better-there b t h k = rw (ne_eqb b 0 h) (go (ltb (current ! t) (current ! b)))
    where
      go : (c : Bool) → cond c t b ≢ 0
      go true = k
      go false = h

  -- the pass goes on from the first of those seen
  pass-first : (b : ℕ) (ts us : List ℕ) → b ≢ 0 → ((u : ℕ) → member u us ≡ true → u ≢ 0) → First ts b → First (ts ++ us) (foldl (better current) b us)
  pass-first b ts [] h n f = rw append-nil f
  pass-first b ts (u ∷ us) h n f =
      subst (λ (l : List ℕ). First l (foldl (better current) b (u ∷ us))) (append_assoc ts (u ∷ []) us)
      (pass-first (better current b u) (ts ++ u ∷ []) us (better-there b u h (n u (or_left (eqb u u) _ (eq-eqb u u refl)))) (λ w q. n w (or_right (eqb w u) _ q)) (better-first b u h f))

  -- one pass over the tasks as they arrived finds the first of the queue by priority
  pub pass : (ts : List ℕ) → ((u : ℕ) → member u ts ≡ true → u ≢ 0) → foldl (better current) 0 ts ≡ head_of (sorted current ts)
  pass [] n = refl
  pass (t ∷ ts) n =
      first-unique
      (pass-first t (t ∷ []) ts (n t (or_left (eqb t t) _ (eq-eqb t t refl))) (λ u q. n u (or_right (eqb u t) _ q)) (sorted-first t []))
      (sorted-first t ts)

-- ---- the front of any queue

-- a queue by arrival has the oldest at its front
pub front-by-arrival : (f : Facts) (current : List ℕ) (q : Queue) → by_priority f q ≡ false → front f current q ≡ head_of (f.arrivals q)
unfolding front order ordered
front-by-arrival f current q e = rw e

-- a queue by priority where somebody stands has the most urgent there, and of those the oldest
pub front-by-priority : (f : Facts) (current : List ℕ) (q : Queue) (t : ℕ) (ts : List ℕ) → by_priority f q ≡ true → f.arrivals q ≡ t ∷ ts
    → First current (f.arrivals q) (front f current q)
unfolding front order ordered
front-by-priority f current q t ts e a = rw (e, a) (sorted-first current t ts)
