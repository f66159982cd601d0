-- A list of words cut into fields by a list of sizes: what a read and a store in one field mean, once for every layout.
use Prim.Native.Nat.{ℕ, zero, suc, ◌+◌, ◌<◌, ◌≤◌}
use native.Mathlib.Nat.{not-suc-le-zero, zero-add, add_assoc, min-le_left}
use native.Mathlib.Omega.{arith}
use mathlib.Core.Path.{◌≡◌, refl, sym, ap}
use mathlib.Core.Bool.{Bool, true, false, cond}
use mathlib.Core.List.{List, [], ◌∷◌, map}
use lib.Dec.{ltb}
use lib.ListN.{length, get_or, set, take, drop, length-append, length-take, length-drop, length-set, take-append-drop, get_or-eq_default}
use lib.Seq.{take-set-lt, take-set-le, drop-set-lt, drop-set-add, get_or-take, get_or-drop, set_out, set-get_or, take_at, drop_at, length-take-le}
use borrow.Author.Tests.{ltb-true, ltb-false}
use Rattle.model.specs.Lists.{◌!◌, joined, sum}
use Rattle.model.specs.Words.{cut}
use Rattle.state.specs.Layout.{entry, with_entry}

-- where a field's first word stands
abbrev pub offset : List ℕ → ℕ → ℕ
offset ns zero = 0
offset [] (suc f) = 0
offset (n ∷ ns) (suc f) = n + offset ns f

-- a field is no longer than its size
field-length : (ns w : List ℕ) (f : ℕ) → length (get_or (cut ns w) f []) ≤ get_or ns f 0
field-length [] w f = omega arith
field-length (n ∷ ns) w zero = rw length-take (min-le_left n (length w))
field-length (n ∷ ns) w (suc f) = field-length ns (drop n w) f

-- a word of a field, by its place among all words
read-inside : (ns w : List ℕ) (f i : ℕ) → i < get_or ns f 0 → w ! (offset ns f + i) ≡ get_or (cut ns w) f [] ! i
read-inside [] w f i h = absurd (not-suc-le-zero h)
read-inside (n ∷ ns) w zero i h = rw (get_or-take, zero-add)
read-inside (n ∷ ns) w (suc f) i h = rw (add_assoc, ← get_or-drop) (read-inside ns (drop n w) f i h)

stored-inside : (ns w : List ℕ) (f i v : ℕ) → i < get_or ns f 0
    → cut ns (set w (offset ns f + i) v) ≡ set (cut ns w) f (set (get_or (cut ns w) f []) i v)
stored-inside [] w f i v h = absurd (not-suc-le-zero h)
stored-inside (n ∷ ns) w zero i v h = rw zero-add (rw (take-set-lt n w i v h, drop-set-lt n w i v h))
stored-inside (n ∷ ns) w (suc f) i v h =
    rw add_assoc
    (rw (take-set-le n w (n + (offset ns f + i)) v (omega arith), drop-set-add)
    (ap (λ (r : List (List ℕ)). take n w ∷ r) (stored-inside ns (drop n w) f i v h)))

module _ (ns w : List ℕ) (f i : ℕ) where
  -- a read of an entry is the field's entry
  pub read : entry w (offset ns f) (get_or ns f 0) i ≡ get_or (cut ns w) f [] ! i
  read = by-test (ltb i (get_or ns f 0)) refl
    where
      by-test : (b : Bool) → ltb i (get_or ns f 0) ≡ b → cond b (w ! (offset ns f + i)) 0 ≡ get_or (cut ns w) f [] ! i
      by-test true e = read-inside ns w f i (ltb-true _ _ e)
      by-test false e =
          let h : get_or ns f 0 ≤ i = ltb-false _ _ e in
          sym (get_or-eq_default (get_or (cut ns w) f []) 0 (omega (arith, field-length ns w f)))

  -- a store of an entry changes the field at that entry, and no other field
  pub stored : (v : ℕ) → cut ns (with_entry w (offset ns f) (get_or ns f 0) i v) ≡ set (cut ns w) f (set (get_or (cut ns w) f []) i v)
  stored v = by-test (ltb i (get_or ns f 0)) refl
    where
      by-test : (b : Bool) → ltb i (get_or ns f 0) ≡ b → cut ns (cond b (set w (offset ns f + i) v) w) ≡ set (cut ns w) f (set (get_or (cut ns w) f []) i v)
      by-test true e = stored-inside ns w f i v (ltb-true _ _ e)
      by-test false e =
          let h : get_or ns f 0 ≤ i = ltb-false _ _ e in
          sym
          (rw (set_out (get_or (cut ns w) f []) i v (omega (arith, field-length ns w f)))
          (set-get_or (cut ns w) f []))

-- a store keeps the number of words
pub length-with_entry : (w : List ℕ) (at slots i v : ℕ) → length (with_entry w at slots i v) ≡ length w
length-with_entry w at slots i v = by-test (ltb i slots)
  where
    by-test : (b : Bool) → length (cond b (set w (at + i) v) w) ≡ length w
    by-test true = length-set w (at + i) v
    by-test false = refl

-- joining the fields gives the words back
pub joined-cut : (ns w : List ℕ) → length w ≡ sum ns → joined (cut ns w) ≡ w
joined-cut [] [] h = refl
joined-cut [] (x ∷ w) h = absurd (omega arith)
joined-cut (n ∷ ns) w h =
    rw (joined-cut ns (drop n w) (simp length-drop (omega arith))) (take-append-drop n w)

-- every field has its size
pub lengths-cut : (ns w : List ℕ) → length w ≡ sum ns → map length (cut ns w) ≡ ns
lengths-cut [] w h = refl
lengths-cut (n ∷ ns) w h =
    rw (length-take-le n w (omega arith), lengths-cut ns (drop n w) (simp length-drop (omega arith)))

-- the other way round: lists are cut from their words again, which are as many as the lists have
pub cut-joined : (fs : List (List ℕ)) → cut (map length fs) (joined fs) ≡ fs
cut-joined [] = refl
cut-joined (f ∷ fs) = rw (take_at f (joined fs) (length f) refl, drop_at f (joined fs) (length f) refl, cut-joined fs)

pub length-joined : (fs : List (List ℕ)) → length (joined fs) ≡ sum (map length fs)
length-joined [] = refl
length-joined (f ∷ fs) = rw (length-append, length-joined fs)
