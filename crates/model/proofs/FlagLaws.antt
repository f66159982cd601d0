-- Laws of many flags that are asked together: as `&` joins them, test by test or number by number, in any order. Assumes nothing.
use Prim.Native.Nat.{ℕ, zero, suc}
use mathlib.Core.Path.{◌≡◌, ◌∙◌, refl, sym, ap}
use mathlib.Core.Bool.{Bool, true, false, ◌&&◌, false≢true}
use mathlib.Core.List.{List, [], ◌∷◌, ◌++◌, map}
use lib.ListN.{get_or}
use Rattle.model.specs.Lists.{all}
use Rattle.model.specs.Flags.{every, joined_to, joined_flags, passes}
use Rattle.model.proofs.ListLaws.{bool-ext}

joined_to-every : (a : Bool) (bs : List Bool) → joined_to a bs ≡ a && every bs
joined_to-every true [] = refl
joined_to-every false [] = refl
joined_to-every true (b ∷ bs) = joined_to-every b bs
joined_to-every false (b ∷ bs) = joined_to-every false bs

pub joined-every : (bs : List Bool) → joined_flags bs ≡ every bs
joined-every [] = refl
joined-every (b ∷ bs) = joined_to-every b bs

-- ---- tests of numbers: asked number by number, or test by test

and-swap : (a b c d : Bool) → (a && b) && (c && d) ≡ (a && c) && (b && d)
and-swap false b c d = refl
and-swap true false false d = refl
and-swap true false true d = refl
and-swap true true c d = refl

all_true : {A : Type 0} (xs : List A) → all (λ x. true) xs ≡ true
all_true [] = refl
all_true (x ∷ xs) = all_true xs

all-and : {A : Type 0} (p q : A → Bool) (xs : List A) → all (λ x. p x && q x) xs ≡ all p xs && all q xs
all-and p q [] = refl
all-and p q (x ∷ xs) = rw (all-and p q xs) (and-swap (p x) (q x) (all p xs) (all q xs))

pub asked-together : (ps : List (ℕ → Bool)) (n : ℕ) → joined_flags (map (λ p. p n) ps) ≡ passes ps n
asked-together ps n = joined-every (map (λ p. p n) ps) ∙ go ps
  where
    go : (qs : List (ℕ → Bool)) → every (map (λ p. p n) qs) ≡ passes qs n
    go [] = refl
    go (q ∷ qs) = ap (λ (b : Bool). q n && b) (go qs)

pub test-by-test : (ps : List (ℕ → Bool)) (ns : List ℕ) → all (passes ps) ns ≡ every (map (λ p. all p ns) ps)
test-by-test [] ns = all_true ns
test-by-test (p ∷ ps) ns = all-and p (passes ps) ns ∙ ap (λ (b : Bool). all p ns && b) (test-by-test ps ns)

-- ---- flags in groups

pub every_append : (bs cs : List Bool) → every (bs ++ cs) ≡ every bs && every cs
every_append [] cs = refl
every_append (true ∷ bs) cs = every_append bs cs
every_append (false ∷ bs) cs = refl

-- ---- the order does not matter

-- the flags at some places of a list
abbrev pub chosen : List Bool → List ℕ → List Bool
chosen bs is = map (λ i. get_or bs i true) is

pub flag-set : (bs : List Bool) (i : ℕ) → every bs ≡ true → get_or bs i true ≡ true
flag-set [] i e = refl
flag-set (true ∷ bs) zero e = refl
flag-set (true ∷ bs) (suc i) e = flag-set bs i e
flag-set (false ∷ bs) i e = absurd (false≢true e)

chosen-set : (bs : List Bool) (is : List ℕ) → every bs ≡ true → every (chosen bs is) ≡ true
chosen-set bs [] e = refl
chosen-set bs (i ∷ is) e = rw (flag-set bs i e) (chosen-set bs is e)

-- two lists of flags, each chosen from the other, say the same
pub same_flags : (is js : List ℕ) (bs cs : List Bool) → chosen bs is ≡ cs → chosen cs js ≡ bs → every bs ≡ every cs
same_flags is js bs cs e f =
    bool-ext (every bs) (every cs) (λ q. ap every (sym e) ∙ chosen-set bs is q) (λ q. ap every (sym f) ∙ chosen-set cs js q)
