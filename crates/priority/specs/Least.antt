-- The most urgent of a priority and of those of the tasks, or mutexes, that pass a test: what it is at most, and what is at most it. Assumes nothing.
use Rattle.std.specs.Prelude.{ℕ, zero, suc, ◌+◌, ◌≤◌, ◌<◌, min, ◌≡◌, refl, Bool, true, false, List, [], ◌∷◌, map}
use Rattle.std.proofs.Math.Decide.{ℕ_discrete}
use Rattle.std.proofs.Common.{arith, sym, subst}
use Rattle.model.specs.Lists.{count_from, up_to, select, keep}
use Rattle.model.specs.Priority.{most_urgent}

-- among the numbers 1 to n
abbrev pub least : ℕ → (ℕ → ℕ) → (ℕ → Bool) → ℕ → ℕ
least a f p n = most_urgent a (map f (select p (up_to n)))

most_urgent-first : (a : ℕ) (xs : List ℕ) → most_urgent a xs ≤ a
most_urgent-first a [] = omega arith
most_urgent-first a (x ∷ xs) = let h = most_urgent-first (min a x) xs in omega arith

module _ (f : ℕ → ℕ) (p : ℕ → Bool) where
  keep_at : (a x : ℕ) (xs : List ℕ) → p x ≡ true → most_urgent a (map f (keep (p x) x xs)) ≤ f x
  keep_at a x xs h = rw h (let l = most_urgent-first (min a (f x)) (map f xs) in omega arith)

  keep-below : (a x b : ℕ) (xs : List ℕ) (c : Bool) → ((a : ℕ) → most_urgent a (map f xs) ≤ b) → most_urgent a (map f (keep c x xs)) ≤ b
  keep-below a x b xs true h = h (min a (f x))
  keep-below a x b xs false h = h a

  keep-above : (a x b : ℕ) (xs : List ℕ) (c : Bool) → p x ≡ c → b ≤ a → (p x ≡ true → b ≤ f x)
      → ((a : ℕ) → b ≤ a → b ≤ most_urgent a (map f xs)) → b ≤ most_urgent a (map f (keep c x xs))
  keep-above a x b xs true e h g rest = rest (min a (f x)) (let k = g e in omega arith)
  keep-above a x b xs false e h g rest = rest a h

  at_from : (a i n x : ℕ) → i ≤ x → x < i + n → p x ≡ true → most_urgent a (map f (select p (count_from i n))) ≤ f x
  at_from a i zero x low high h = absurd (omega arith)
  at_from a i (suc n) x low high h = go (ℕ_discrete i x) (λ b. at_from b (suc i) n x)
    where
      go : Dec (i ≡ x) → ((b : ℕ) → suc i ≤ x → x < suc i + n → p x ≡ true → most_urgent b (map f (select p (count_from (suc i) n))) ≤ f x)
          → most_urgent a (map f (select p (count_from i (suc n)))) ≤ f x
      go (yes e) rest =
          subst (λ (j : ℕ). most_urgent a (map f (select p (count_from i (suc n)))) ≤ f j) e
          (keep_at a i (select p (count_from (suc i) n)) (subst (λ (j : ℕ). p j ≡ true) (sym e) h))
      go (no e) rest = keep-below a i (f x) (select p (count_from (suc i) n)) (p i) (λ b. rest b (omega arith) (omega arith) h)

  above_from : (a i n b : ℕ) → b ≤ a → ((x : ℕ) → i ≤ x → x < i + n → p x ≡ true → b ≤ f x) → b ≤ most_urgent a (map f (select p (count_from i n)))
  above_from a i zero b h g = h
  above_from a i (suc n) b h g =
      keep-above a i b (select p (count_from (suc i) n)) (p i) refl h (g i (omega arith) (omega arith))
      (λ c l. above_from c (suc i) n b l (λ x low high. g x (omega arith) (omega arith)))

  -- at most the first, and at most that of each number that passes
  pub least_first : (a n : ℕ) → least a f p n ≤ a
  least_first a n = most_urgent-first a (map f (select p (up_to n)))

  pub least_at : (a n x : ℕ) → 1 ≤ x → x ≤ n → p x ≡ true → least a f p n ≤ f x
  least_at a n x low high h = at_from a 1 n x low (omega arith) h

  -- whatever is at most all of them is at most the most urgent
  pub least_above : (a n b : ℕ) → b ≤ a → ((x : ℕ) → 1 ≤ x → x ≤ n → p x ≡ true → b ≤ f x) → b ≤ least a f p n
  least_above a n b h g = above_from a 1 n b h (λ x low high. g x low (omega arith))
