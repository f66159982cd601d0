-- A test agrees with a statement: it answers true exactly if the statement holds. How tests are put together, so are the statements. Assumes nothing.
use Rattle.std.specs.Prelude.{ℕ, zero, suc, ◌+◌, ◌≤◌, ◌<◌, ◌≡◌, refl, ◌≢◌, ◌⊎◌, ◌↔◌, Bool, true, false, ◌&&◌, ◌||◌, not, List, [], ◌∷◌, length, eqb, leb, ltb}
use Rattle.std.proofs.Math.Decide.{ℕ_discrete}
use Rattle.std.proofs.Common.{arith, sym, subst, inl, inr, eqb-true, eq-eqb, ne_eqb, leb-true, le-leb, ltb-true, lt-ltb}
use Rattle.std.proofs.lemmas.Bool.{false≢true}
use Rattle.model.specs.Lists.{◌!◌, first_where, all, count_from, up_to, implies, within, same, all_zero, zeros}
use Rattle.model.specs.Valid.{From, Each}

abbrev pub Agrees : Bool → Type 0 → Type 0
Agrees b P = (b ≡ true) ↔ P

module _ {A B : Type 0} where
  pub and-agrees : (a b : Bool) → Agrees a A → Agrees b B → Agrees (a && b) (A × B)
  and-agrees true b f g = ((λ e. (f.0 refl, g.0 e)), (λ p. g.1 p.1))
  and-agrees false b f g = ((λ e. absurd (false≢true e)), (λ p. f.1 p.0))

  pub or-agrees : (a b : Bool) → Agrees a A → Agrees b B → Agrees (a || b) (A ⊎ B)
  or-agrees true b f g = ((λ e. inl (f.0 refl)), (λ p. refl))
  or-agrees false b f g = ((λ e. inr (g.0 e)), go)
    where
      go : A ⊎ B → b ≡ true
      go (inl p) = absurd (false≢true (f.1 p))
      go (inr p) = g.1 p

  pub implies-agrees : (a b : Bool) → Agrees a A → Agrees b B → Agrees (implies a b) (A → B)
  implies-agrees true b f g = ((λ e p. g.0 e), (λ h. g.1 (h (f.0 refl))))
  implies-agrees false b f g = ((λ e p. absurd (false≢true (f.1 p))), (λ h. refl))

module _ {A : Type 0} where
  pub not_agrees : (a : Bool) → Agrees a A → Agrees (not a) (A → ⊥)
  not_agrees true f = ((λ e. absurd (false≢true e)), (λ h. absurd (h (f.0 refl))))
  not_agrees false f = ((λ e p. false≢true (f.1 p)), (λ h. refl))

-- a test that is itself the statement, and one that fails
pub itself : (b : Bool) → Agrees b (b ≡ true)
itself b = ((λ e. e), (λ e. e))

pub fails : (b : Bool) → Agrees (not b) (b ≡ false)
fails true = ((λ e. sym e), (λ e. sym e))
fails false = ((λ e. refl), (λ e. refl))

-- more than two parts side by side
module _ {A B C : Type 0} where
  pub and3 : (a b c : Bool) → Agrees a A → Agrees b B → Agrees c C → Agrees (a && b && c) (A × B × C)
  and3 a b c f g h = let k = and-agrees (a && b) c (and-agrees a b f g) h in ((λ e. let p = k.0 e in (p.0.0, p.0.1, p.1)), (λ p. k.1 ((p.0, p.1), p.2)))

module _ {A B C D : Type 0} where
  pub and4 : (a b c d : Bool) → Agrees a A → Agrees b B → Agrees c C → Agrees d D → Agrees (a && b && c && d) (A × B × C × D)
  and4 a b c d f g h i =
      let k = and-agrees (a && b && c) d (and3 a b c f g h) i in
      ((λ e. let p = k.0 e in (p.0.0, p.0.1, p.0.2, p.1)), (λ p. k.1 ((p.0, p.1, p.2), p.3)))

module _ {A B C D E : Type 0} where
  pub and5 : (a b c d e : Bool) → Agrees a A → Agrees b B → Agrees c C → Agrees d D → Agrees e E → Agrees (a && b && c && d && e) (A × B × C × D × E)
  and5 a b c d e f g h i j =
      let k = and-agrees (a && b && c && d) e (and4 a b c d f g h i) j in
      ((λ q. let p = k.0 q in (p.0.0, p.0.1, p.0.2, p.0.3, p.1)), (λ p. k.1 ((p.0, p.1, p.2, p.3), p.4)))

-- ---- numbers

pub eq-agrees : (m n : ℕ) → Agrees (eqb m n) (m ≡ n)
eq-agrees m n = (eqb-true m n, eq-eqb m n)

pub ne-agrees : (m n : ℕ) → Agrees (not (eqb m n)) (m ≢ n)
ne-agrees m n = not_agrees (eqb m n) (eq-agrees m n)

pub le-agrees : (m n : ℕ) → Agrees (leb m n) (m ≤ n)
le-agrees m n = (leb-true m n, le-leb m n)

pub lt-agrees : (m n : ℕ) → Agrees (ltb m n) (m < n)
lt-agrees m n = (ltb-true m n, lt-ltb m n)

pub within-agrees : (low high n : ℕ) → Agrees (within low high n) (From low high n)
within-agrees low high n = and-agrees (leb low n) (leb n high) (le-agrees low n) (le-agrees n high)

-- ---- lists

-- of each number from a on, where the test is known to agree there
module _ (p : ℕ → Bool) (P : ℕ → Type 0) where
  within-from : (a n : ℕ) → ((i : ℕ) → a ≤ i → i < a + n → Agrees (p i) (P i)) → Agrees (all p (count_from a n)) ((i : ℕ) → a ≤ i → i < a + n → P i)
  within-from a zero h = ((λ e i low high. absurd (omega arith)), (λ f. refl))
  within-from a (suc n) h =
      let k = and-agrees (p a) (all p (count_from (suc a) n)) (h a (omega arith) (omega arith)) (within-from (suc a) n (λ i low high. h i (omega arith) (omega arith))) in
      ((λ e. cut (k.0 e)), (λ f. k.1 (f a (omega arith) (omega arith), (λ i low high. f i (omega arith) (omega arith)))))
    where
      cut : P a × ((i : ℕ) → suc a ≤ i → i < suc a + n → P i) → (i : ℕ) → a ≤ i → i < a + suc n → P i
      cut q i low high = go (ℕ_discrete a i)
        where
          go : Dec (a ≡ i) → P i
          go (yes e) = subst P e q.0
          go (no d) = q.1 i (omega arith) (omega arith)

  -- of the numbers 1 to n
  pub each_within : (n : ℕ) → ((i : ℕ) → 1 ≤ i → i ≤ n → Agrees (p i) (P i)) → Agrees (all p (up_to n)) (Each n P)
  each_within n h =
      let k = within-from 1 n (λ i low high. h i low (omega arith)) in
      ((λ e i low high. k.0 e i low (omega arith)), (λ f. k.1 (λ i low high. f i low (omega arith))))

module _ (p : ℕ → Bool) (P : ℕ → Type 0) (h : (i : ℕ) → Agrees (p i) (P i)) where
  -- of the numbers 1 to n, and of 0 to n
  pub each-agrees : (n : ℕ) → Agrees (all p (up_to n)) (Each n P)
  each-agrees n = each_within p P n (λ i low high. h i)

  pub to-agrees : (n : ℕ) → Agrees (all p (count_from 0 (suc n))) ((i : ℕ) → i ≤ n → P i)
  to-agrees n =
      let k = within-from p P 0 (suc n) (λ i low high. h i) in
      ((λ e i high. k.0 e i (omega arith) (omega arith)), (λ f. k.1 (λ i low high. f i (omega arith))))

  -- of each entry of a list; beyond its end stands 0
  pub entries-agree : P 0 → (xs : List ℕ) → Agrees (all p xs) ((i : ℕ) → P (xs ! i))
  entries-agree z [] = ((λ e i. z), (λ f. refl))
  entries-agree z (x ∷ xs) =
      let k = and-agrees (p x) (all p xs) (h x) (entries-agree z xs) in
      ((λ e. at (k.0 e)), (λ f. k.1 (f 0, (λ i. f (suc i)))))
    where
      at : P x × ((i : ℕ) → P (xs ! i)) → (i : ℕ) → P ((x ∷ xs) ! i)
      at q zero = q.0
      at q (suc i) = q.1 i

-- two constructors are never equal
apart : ◌≡◌ {A = ℕ} 0 1 → ⊥
apart e = omega arith

pub same-agrees : (xs ys : List ℕ) → Agrees (same xs ys) (xs ≡ ys)
same-agrees [] [] = ((λ e. refl), (λ e. refl))
same-agrees [] (y ∷ ys) = ((λ e. absurd (false≢true e)), (λ e. absurd (apart (cc))))
same-agrees (x ∷ xs) [] = ((λ e. absurd (false≢true e)), (λ e. absurd (apart (cc))))
same-agrees (x ∷ xs) (y ∷ ys) =
    let k = and-agrees (eqb x y) (same xs ys) (eq-agrees x y) (same-agrees xs ys) in
    ((λ e. let q = k.0 e in cc), (λ e. k.1 ((cc), (cc))))

pub zero-agrees : (xs : List ℕ) → Agrees (all_zero xs) (xs ≡ zeros (length xs))
zero-agrees [] = ((λ e. refl), (λ e. refl))
zero-agrees (x ∷ xs) =
    let k = and-agrees (eqb 0 x) (all_zero xs) (eq-agrees 0 x) (zero-agrees xs) in
    ((λ e. let q = k.0 e in cc), (λ e. k.1 ((cc), (cc))))

-- a search among the numbers 1 to n finds nothing exactly if every number fails
none_found : (p : ℕ → Bool) (a n : ℕ) → eqb (first_where p (count_from (suc a) n)) 0 ≡ all (λ i. not (p i)) (count_from (suc a) n)
none_found p a zero = refl
none_found p a (suc n) = go (p (suc a)) (none_found p (suc a) n)
  where
    go : (b : Bool) → eqb (first_where p (count_from (suc (suc a)) n)) 0 ≡ all (λ i. not (p i)) (count_from (suc (suc a)) n)
        → eqb (elim b [ true ↦ suc a | false ↦ first_where p (count_from (suc (suc a)) n) ]) 0 ≡ not b && all (λ i. not (p i)) (count_from (suc (suc a)) n)
    go true rest = ne_eqb (suc a) 0 (omega arith)
    go false rest = rest

pub none-agrees : (p : ℕ → Bool) (n : ℕ) → Agrees (eqb (first_where p (up_to n)) 0) (Each n (λ i. p i ≡ false))
none-agrees p n = rw (none_found p 0 n) (each-agrees (λ i. not (p i)) (λ i. p i ≡ false) (λ i. fails (p i)) n)
