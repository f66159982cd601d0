-- What a loop over numbers keeps, and what serving from the front keeps; a search among numbers.
use Rattle.model.proofs.Terms.{ℕ, zero, suc, ◌+◌, ◌≤◌, ◌<◌, ℕ_discrete, add-zero, add-suc, suc-add, arith, ◌≡◌, ◌∙◌, refl, sym, ap, subst, ◌⊎◌, inl, inr, Bool, true, false, foldl, count_from, up_to, World, serve}

-- what is so before each number, and so after the last
module _ {A : Type 0} (P : ℕ → A → Type 0) (f : A → ℕ → A) (last : ℕ) (turn : (n : ℕ) (a : A) → 1 ≤ n → n ≤ last → P n a → P (suc n) (f a n)) where
  from : (count n : ℕ) (a : A) → 1 ≤ n → n + count ≤ suc last → P n a → P (n + count) (foldl f a (count_from n count))
  from zero n a low high p = rw add-zero p
  from (suc count) n a low high p = rw (add-suc, ← suc-add) (from count (suc n) (f a n) (omega arith) (omega arith) (turn n a low (omega arith) p))

  pub numbers_keep : (a : A) → P 1 a → P (suc last) (foldl f a (up_to last))
  numbers_keep a p = subst (λ (n : ℕ). P n (foldl f a (up_to last))) (omega arith) (from last 1 a (omega arith) (omega arith) p)

  -- another loop that does the same at each number
  module _ (g : A → ℕ → A) (same : (n : ℕ) (a : A) → 1 ≤ n → n ≤ last → P n a → g a n ≡ f a n) where
    agree-from : (count n : ℕ) (a : A) → 1 ≤ n → n + count ≤ suc last → P n a → foldl g a (count_from n count) ≡ foldl f a (count_from n count)
    agree-from zero n a low high p = refl
    agree-from (suc count) n a low high p =
        ap (λ (x : A). foldl g x (count_from (suc n) count)) (same n a low (omega arith) p)
        ∙ agree-from count (suc n) (f a n) (omega arith) (omega arith) (turn n a low (omega arith) p)

    pub numbers-agree : (a : A) → P 1 a → foldl g a (up_to last) ≡ foldl f a (up_to last)
    numbers-agree a p = agree-from last 1 a (omega arith) (omega arith) p

module _ (P : World → Type 0) (can : World → Bool) (act : World → World) (turn : (w : World) → can w ≡ true → P w → P (act w)) where
  pub serve-keeps : (n : ℕ) (w : World) → P w → P (serve n can act w)
  serve-keeps zero w p = p
  serve-keeps (suc n) w p = go (can w) refl (serve-keeps n (act w))
    where
      go : (b : Bool) → can w ≡ b → (P (act w) → P (serve n can act (act w))) → P (elim b [ true ↦ serve n can act (act w) | false ↦ w ])
      go true e rest = rest (turn w e p)
      go false e rest = p

-- a search among the numbers below n: it finds something, or all of them are so
pub search-below : {R : Type 0} (B : ℕ → Type 0) → ((x : ℕ) → R ⊎ B x) → (n : ℕ) → (((x : ℕ) → x < n → B x) → R) → R
search-below B h zero k = k (λ x l. absurd (omega arith))
search-below B h (suc n) k =
    elim (h n) [
      | inl r ↦ r
      | inr b ↦ search-below B h n (λ below. k (λ x l. elim (ℕ_discrete x n) [ yes e ↦ subst B (sym e) b | no d ↦ below x (omega arith) ]))
    ]
