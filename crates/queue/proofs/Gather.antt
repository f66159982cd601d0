-- How the arrival order is changed in place: the others move to the front, one place after the other. Assumes nothing.
use Prim.Native.Nat.{ℕ, suc, ◌+◌, ◌-◌, ◌≤◌, ◌<◌}
use native.Mathlib.Decide.{dec_lt}
use native.Mathlib.Numerals.{add-one}
use native.Mathlib.Omega.{arith}
use mathlib.Core.Path.{◌≡◌, ◌∙◌, refl, sym, ap}
use mathlib.Core.Bool.{Bool, true, false, cond}
use mathlib.Core.List.{List, [], ◌∷◌, ◌++◌, append-nil, append_assoc}
use lib.ListN.{length, take, drop, set, length-append, length-take, length-drop, length-set, drop_of_length-le}
use lib.Seq.{take-suc, drop-cons, get_or-append-add, get_or-drop, take-length, take_all, take-append_seam, take-append-add}
use Rattle.model.specs.Lists.{◌!◌, keep, padded, zeros}
use Rattle.model.specs.Kernel.{others, departed, arrived}
use Rattle.queue.specs.Arriving.{other, kept_arrivals, kept_count}
use Rattle.queue.proofs.ArrivalLaws.{select-append, length-others, padded-is}

-- a store right behind a list, and behind all
pub set-seam : (xs ys : List ℕ) (y v : ℕ) → set (xs ++ y ∷ ys) (length xs) v ≡ xs ++ v ∷ ys
set-seam [] ys y v = refl
set-seam (x ∷ xs) ys y v = ap (λ (l : List ℕ). x ∷ l) (set-seam xs ys y v)

set_past : (xs : List ℕ) (v : ℕ) → set xs (length xs) v ≡ xs
set_past [] v = refl
set_past (x ∷ xs) v = ap (λ (l : List ℕ). x ∷ l) (set_past xs v)

module _ (t : ℕ) (a : List ℕ) where
  -- the first i places gathered: the others among them first, the rest as it was
  unfoldable pub gathered : ℕ → List ℕ
  gathered i = others t (take i a) ++ drop (length (others t (take i a))) a

  abbrev pub count : ℕ → ℕ
  count i = length (others t (take i a))

  pub count-le : (i : ℕ) → count i ≤ i
  count-le i = let h = length-others t (take i a) in omega (arith, length-take i a)

  pub gathered-start : gathered 0 ≡ a
  unfolding gathered others
  gathered-start = refl

  pub count-start : count 0 ≡ 0
  unfolding others
  count-start = refl

  pub gathered-at : (i : ℕ) → gathered i ! i ≡ a ! i
  unfolding gathered
  gathered-at i =
      let h = count-le i in
      let e : count i + (i - count i) ≡ i = omega arith in
      ap (λ (n : ℕ). gathered i ! n) (sym e) ∙ get_or-append-add (others t (take i a)) (drop (count i) a) (i - count i) 0
      ∙ get_or-drop (count i) a (i - count i) 0 ∙ ap (λ (n : ℕ). a ! n) e

  others-suc : (i : ℕ) → i < length a → others t (take (suc i) a) ≡ others t (take i a) ++ keep (other t (a ! i)) (a ! i) []
  unfolding others
  others-suc i h = rw (take-suc a i 0 h) (select-append (other t) (take i a) (a ! i ∷ []))

  pub gathered-step : (i : ℕ) → i < length a → kept_arrivals t i (count i) (gathered i) ≡ gathered (suc i)
  unfolding gathered
  gathered-step i h = rw (gathered-at i) (go (other t (a ! i)) refl)
    where
      more : other t (a ! i) ≡ true → others t (take (suc i) a) ≡ others t (take i a) ++ a ! i ∷ []
      more e = others-suc i h ∙ ap (λ (b : Bool). others t (take i a) ++ keep b (a ! i) []) e

      same : other t (a ! i) ≡ false → others t (take (suc i) a) ≡ others t (take i a)
      same e = others-suc i h ∙ ap (λ (b : Bool). others t (take i a) ++ keep b (a ! i) []) e ∙ append-nil (others t (take i a))

      go : (b : Bool) → other t (a ! i) ≡ b → cond b (set (gathered i) (count i) (a ! i)) (gathered i) ≡ gathered (suc i)
      go true e =
          ap (λ (l : List ℕ). set (others t (take i a) ++ l) (count i) (a ! i)) (drop-cons a (count i) 0 (let k = count-le i in omega arith))
          ∙ set-seam (others t (take i a)) (drop (suc (count i)) a) (a ! count i) (a ! i)
          ∙ sym (rw (more e, length-append, add-one, append_assoc))
      go false e = sym (rw (same e))

  pub count-step : (i : ℕ) → i < length a → kept_count t i (count i) (gathered i) ≡ count (suc i)
  count-step i h = rw (gathered-at i, others-suc i h) (go (other t (a ! i)))
    where
      go : (b : Bool) → cond b (count i + 1) (count i) ≡ length (others t (take i a) ++ keep b (a ! i) [])
      go true = sym (length-append (others t (take i a)) (a ! i ∷ []))
      go false = ap length (sym (append-nil (others t (take i a))))

  -- all places seen
  pub gathered-all : gathered (length a) ≡ others t a ++ drop (length (others t a)) a
  unfolding gathered
  gathered-all = rw take-length

  pub count-all : count (length a) ≡ length (others t a)
  count-all = rw take-length

  -- zeros behind the others, or behind the task that comes last
  abbrev pub cleared : ℕ → List ℕ → List ℕ
  cleared n xs = take n xs ++ zeros (length xs - n)

  rest-length : length (others t a ++ drop (length (others t a)) a) ≡ length a
  rest-length = rw (length-append, length-drop) (let h = length-others t a in omega arith)

  pub departed-is : cleared (length (others t a)) (others t a ++ drop (length (others t a)) a) ≡ departed t a
  unfolding departed
  departed-is =
      rw (take-append_seam, rest-length) (sym (padded-is (length a) (others t a) (length-others t a)))

  pub arrived-is : cleared (length (others t a) + 1) (set (others t a ++ drop (length (others t a)) a) (length (others t a)) t) ≡ arrived t a
  unfolding arrived
  arrived-is = rw (length-set, rest-length) (go (dec_lt (length (others t a)) (length a)))
    where
      xs : List ℕ
      xs = others t a

      one_more : length (xs ++ t ∷ []) ≡ length xs + 1
      one_more = length-append xs (t ∷ [])

      go : Dec (length xs < length a)
          → take (length xs + 1) (set (xs ++ drop (length xs) a) (length xs) t) ++ zeros (length a - (length xs + 1)) ≡ padded (length a) (xs ++ t ∷ [])
      go (yes h) =
          ap (λ (l : List ℕ). take (length xs + 1) (set (xs ++ l) (length xs) t) ++ zeros (length a - (length xs + 1))) (drop-cons a (length xs) 0 h)
          ∙ ap (λ (l : List ℕ). take (length xs + 1) l ++ zeros (length a - (length xs + 1))) (set-seam xs (drop (suc (length xs)) a) (a ! length xs) t)
          ∙ ap (λ (l : List ℕ). l ++ zeros (length a - (length xs + 1))) (take-append-add xs (t ∷ drop (suc (length xs)) a) 1)
          ∙ ap (λ (n : ℕ). (xs ++ t ∷ []) ++ zeros (length a - n)) (sym one_more)
          ∙ sym (padded-is (length a) (xs ++ t ∷ []) (rw one_more (omega arith)))
      go (no h) =
          let l = length-others t a in
          let e : length a ≡ length xs = omega arith in
          let z : length a - (length xs + 1) ≡ 0 = omega arith in
          ap (λ (n : ℕ). take (length xs + 1) (set (xs ++ drop (length xs) a) (length xs) t) ++ zeros n) z
          ∙ append-nil (take (length xs + 1) (set (xs ++ drop (length xs) a) (length xs) t))
          ∙ ap (λ (r : List ℕ). take (length xs + 1) (set (xs ++ r) (length xs) t)) (drop_of_length-le a {i = length xs} (omega arith))
          ∙ ap (λ (r : List ℕ). take (length xs + 1) (set r (length xs) t)) (append-nil xs)
          ∙ ap (take (length xs + 1)) (set_past xs t)
          ∙ take_all (length xs + 1) xs (omega arith)
          ∙ sym (take-append_seam xs (t ∷ [] ++ zeros (length a)))
          ∙ ap (take (length xs)) (sym (append_assoc xs (t ∷ []) (zeros (length a))))
          ∙ ap (λ (n : ℕ). take n ((xs ++ t ∷ []) ++ zeros (length a))) (sym e)
