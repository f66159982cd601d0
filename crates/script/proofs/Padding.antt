-- A message with zeros behind it: the first of its bytes, placed at the front of as many zeros. Assumes nothing.
use Prim.Native.Nat.{ℕ, zero, suc, ◌≤◌}
use native.Mathlib.Nat.{zero-add, le_refl}
use native.Mathlib.Omega.{arith}
use mathlib.Core.Path.{◌≡◌, ◌∙◌, refl, sym, ap}
use mathlib.Core.List.{List, [], ◌∷◌, ◌++◌}
use lib.ListN.{length, take, drop, length-take, length-replicate}
use Rattle.model.specs.Lists.{zeros, padded}
use Rattle.model.proofs.ListLaws.{take-zeros}
use Rattle.model.specs.Message.{over}
use Rattle.script.specs.Place.{placed}
use Rattle.script.proofs.Appending.{placed-room}

-- at most n of a list, and the zeros that are left of n
filled-up : (n p : ℕ) (m : List ℕ) → n ≤ p → take n (m ++ zeros p) ≡ take n m ++ drop (length (take n m)) (zeros n)
filled-up zero p m h = refl
filled-up (suc n) p [] h = take-zeros (suc n) p h
filled-up (suc n) p (x ∷ m) h = ap (λ (l : List ℕ). x ∷ l) (filled-up n p m (omega arith))

pub padded-placed : (n : ℕ) (m : List ℕ) → placed (zeros n) 0 (take n m) ≡ padded n m
unfolding over
padded-placed n m =
    placed-room (zeros n) 0 (take n m) (omega (arith, length-take n m, length-replicate {A = ℕ} n 0))
    ∙ ap (λ (k : ℕ). take n m ++ drop k (zeros n)) (zero-add (length (take n m)))
    ∙ sym (filled-up n n m (le_refl n))
