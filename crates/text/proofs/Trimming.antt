-- A message without the zeros at its end, found from the end. Assumes nothing.
use Prim.Native.Nat.{ℕ, zero, suc, ◌-◌, ◌≤◌, ◌<◌}
use native.Mathlib.Omega.{arith}
use mathlib.Core.Path.{◌≡◌, ◌∙◌, refl, sym, ap}
use mathlib.Core.List.{List, [], ◌∷◌, ◌++◌}
use lib.ListN.{length, get_or, take}
use lib.Seq.{take-suc, take-length}
use Rattle.text.specs.Quoted.{before, trimmed}

-- a zero at the end goes
last-zero : (xs : List ℕ) → trimmed (xs ++ 0 ∷ []) ≡ trimmed xs
unfolding trimmed
last-zero [] = refl
last-zero (x ∷ xs) = ap (before x) (last-zero xs)

-- another byte there keeps all
not-empty : (x b : ℕ) (xs : List ℕ) → before x (xs ++ b ∷ []) ≡ x ∷ xs ++ b ∷ []
not-empty zero b [] = refl
not-empty (suc x) b [] = refl
not-empty zero b (y ∷ ys) = refl
not-empty (suc x) b (y ∷ ys) = refl

last_byte : (b : ℕ) (xs : List ℕ) → (b ≡ 0 → ⊥) → trimmed (xs ++ b ∷ []) ≡ xs ++ b ∷ []
unfolding trimmed
last_byte zero [] d = absurd (d refl)
last_byte (suc b) [] d = refl
last_byte b (x ∷ xs) d = ap (before x) (last_byte b xs d) ∙ not-empty x b xs

-- by the last byte of a message
module _ (m : List ℕ) (h : 1 ≤ length m) where
  cut : m ≡ take (length m - 1) m ++ get_or m (length m - 1) 0 ∷ []
  cut =
      let less : length m ≡ suc (length m - 1) = omega arith in
      sym (take-length m) ∙ ap (λ (k : ℕ). take k m) less ∙ take-suc m (length m - 1) 0 (omega arith)

  pub zero-goes : get_or m (length m - 1) 0 ≡ 0 → trimmed (take (length m - 1) m) ≡ trimmed m
  zero-goes e = sym (last-zero (take (length m - 1) m)) ∙ ap (λ (b : ℕ). trimmed (take (length m - 1) m ++ b ∷ [])) (sym e) ∙ ap trimmed (sym cut)

  pub byte-stays : (get_or m (length m - 1) 0 ≡ 0 → ⊥) → m ≡ trimmed m
  byte-stays d = cut ∙ sym (last_byte (get_or m (length m - 1) 0) (take (length m - 1) m) d) ∙ ap trimmed (sym cut)

pub none_left : (m : List ℕ) → length m < 1 → m ≡ trimmed m
unfolding trimmed
none_left [] h = refl
none_left (b ∷ m) h = absurd (omega arith)
