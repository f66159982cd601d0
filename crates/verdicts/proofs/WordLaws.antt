-- Laws of words as they stand in a file. Assumes nothing.
use Prim.Native.Nat.{ℕ, zero, suc, ◌+◌, ◌*◌, ◌-◌, ◌<◌, ◌≤◌}
use native.Mathlib.Omega.{arith}
use mathlib.Core.List.{List, ◌++◌}
use mathlib.Core.Path.{◌≡◌, ◌∙◌, refl, ap}
use lib.ListN.{length, take, drop, set, length-take, length-set}
use lib.Seq.{get_or-drop, take_at, ext_get_or, get_or-set_same, get_or-set_other}
use native.Mathlib.Decide.{ℕ_discrete}
use Rattle.model.specs.Lists.{◌!◌}
use Rattle.verdicts.specs.Words.{word_at, words_of}

pub length-words_of : (n : ℕ) (b : List ℕ) → length (words_of n b) ≡ n
unfolding words_of
length-words_of zero b = refl
length-words_of (suc n) b = ap suc (length-words_of n (drop 4 b))

module _ (b : List ℕ) (i : ℕ) where
  shift : (k m : ℕ) → k + 4 ≡ m → drop 4 b ! k ≡ b ! m
  shift k m e = get_or-drop 4 b k 0 ∙ ap (λ (j : ℕ). b ! j) (omega (arith, e))

  word_at-drop : word_at (drop 4 b) (4 * i) ≡ word_at b (4 * suc i)
  word_at-drop =
      rw (shift (4 * i) (4 * suc i) (omega arith))
      (rw (shift (4 * i + 1) (4 * suc i + 1) (omega arith))
      (rw (shift (4 * i + 2) (4 * suc i + 2) (omega arith)) (rw (shift (4 * i + 3) (4 * suc i + 3) (omega arith)))))

pub words_of-entry : (n i : ℕ) (b : List ℕ) → i < n → words_of n b ! i ≡ word_at b (4 * i)
unfolding words_of
words_of-entry zero i b h = absurd (omega (arith, h))
words_of-entry (suc n) zero b h = refl
words_of-entry (suc n) (suc i) b h = words_of-entry n i (drop 4 b) (omega arith) ∙ word_at-drop b i

-- The words stored to the front of a list, as they are read again from there.
pub front : (n : ℕ) (l x b : List ℕ) → n ≤ length l → x ≡ words_of (length (take (n - 0) l)) b
    → take (n - 0) (x ++ drop (n - 0) l) ≡ words_of n b
front n l x b h e =
    let k : length (take (n - 0) l) ≡ n = rw length-take (omega arith) in
    let q : x ≡ words_of n b = rw k at e in
    rw q (take_at (words_of n b) (drop (n - 0) l) (n - 0) (rw length-words_of (omega arith)))

-- ---- words stored one after the other: those passed by are there

pub record Stored (xs l : List ℕ) (i : ℕ) : Type 0 where
  pub size : length l ≡ length xs
  pub passed : (j : ℕ) → j < i → l ! j ≡ xs ! j

pub stored-none : {xs l : List ℕ} → length l ≡ length xs → Stored xs l 0
stored-none e = record { size = e; passed = λ j h. absurd (omega arith) }

module _ {xs l : List ℕ} {i : ℕ} (s : Stored xs l i) where
  pub stored-more : {v : ℕ} → i < length l → v ≡ xs ! i → Stored xs (set l i v) (i + 1)
  stored-more {v} h e = record { size = length-set l i v ∙ s.size; passed = λ j low. go j low (ℕ_discrete j i) }
    where
      go : (j : ℕ) → j < i + 1 → Dec (j ≡ i) → set l i v ! j ≡ xs ! j
      go j low (yes q) = rw q (get_or-set_same l i v 0 h ∙ e)
      go j low (no d) = get_or-set_other l i j v 0 d ∙ s.passed j (omega arith)

  pub stored-all : length l ≤ i → l ≡ xs
  stored-all h = ext_get_or 0 l xs s.size (λ j low. s.passed j (omega arith))
