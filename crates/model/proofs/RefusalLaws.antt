-- What is known of a call that nothing refuses: no condition of its list applies; and of the code of one that is refused. Assumes nothing.
use Rattle.model.proofs.Terms.{ℕ, zero, suc, ◌+◌, ◌≤◌, ◌<◌, ◌^◌, ℕ_discrete, arith, ◌≡◌, ◌∙◌, refl, sym, ◌≢◌, ◌⊎◌, inl, inr, Bool, true, false, ◌&&◌, ◌||◌, not, false≢true, Option, none, some, List, [], ◌∷◌, map, get_or, ℤ, pos, negsuc, lt_z, le_z, mag, eqb, ltb, eq-eqb, ne_eqb, ltb-false, not-false, longest, endless, ◌!◌, count_from, first_where, member, number, millis, unused, Refusal, first_refusal, outside, From}
use Rattle.model.proofs.ByCase.{first-here, first-later, refusal-applies, refusal-not}

-- the condition at a place of the list
abbrev pub applies_at : List Refusal → ℕ → Bool
applies_at rs n = get_or (map (λ r. r.applies) rs) n false

pub none-applies : (rs : List Refusal) → first_refusal rs ≡ none → (n : ℕ) → applies_at rs n ≡ false
none-applies [] e n = refl
none-applies (r ∷ rs) e n = go r.applies refl n (none-applies rs)
  where
    go : (b : Bool) → r.applies ≡ b → (m : ℕ) → (first_refusal rs ≡ none → (i : ℕ) → applies_at rs i ≡ false) → applies_at (r ∷ rs) m ≡ false
    go true f m rest = absurd (let z : ◌≡◌ {A = ℕ} 0 1 = cc (refusal-applies r rs f) in omega arith)
    go false f zero rest = f
    go false f (suc m) rest = rest (sym (refusal-not r rs f) ∙ e) m

-- what holds of each code of the table, and where none applies, holds of the first that applies
abbrev pub EachCode : (ℤ → Type 0) → List Refusal → Type 0
EachCode P [] = Unit
EachCode P (r ∷ rs) = P r.code × EachCode P rs

pub of-first : (P : Option ℤ → Type 0) (rs : List Refusal) → EachCode (λ e. P (some e)) rs → (first_refusal rs ≡ none → P none) → P (first_refusal rs)
of-first P [] codes done = done refl
of-first P (r ∷ rs) codes done = go r.applies done (of-first P rs codes.1)
  where
    go : (b : Bool) → (◌≡◌ {A = Option ℤ} (elim b [ true ↦ some r.code | false ↦ first_refusal rs ]) none → P none)
        → ((first_refusal rs ≡ none → P none) → P (first_refusal rs)) → P (elim b [ true ↦ some r.code | false ↦ first_refusal rs ])
    go true d rest = codes.0
    go false d rest = rest d

-- ---- so a field is in its range

or-false : (a b : Bool) → a || b ≡ false → (a ≡ false) × (b ≡ false)
or-false true b e = absurd (false≢true (sym e))
or-false false b e = (refl, e)

pub in-range : (last : ℕ) (n : ℤ) → outside (pos 1) (pos last) n ≡ false → From 1 last (number n)
in-range last (negsuc n) e = absurd (false≢true (sym e))
in-range last (pos n) e = let r = or-false (ltb n 1) (ltb last n) e in (ltb-false n 1 r.0, ltb-false last n r.1)

pub at_most : (last : ℕ) (n : ℤ) → lt_z (pos last) n ≡ false → number n ≤ last
at_most last (pos n) e = ltb-false last n e
at_most last (negsuc n) e = omega arith

-- from 0 on
pub in-range-from-zero : (last : ℕ) (n : ℤ) → outside (pos 0) (pos last) n ≡ false → number n ≤ last
in-range-from-zero last n e = at_most last n (or-false (lt_z n (pos 0)) (lt_z (pos last) n) e).1

-- an attribute that is allowed
pub allowed : (xs : List ℕ) (a : ℤ) → lt_z a (pos 0) || not (member (number a) xs) ≡ false → member (number a) xs ≡ true
allowed xs a e = not-false (member (number a) xs) (or-false (lt_z a (pos 0)) (not (member (number a) xs)) e).1

-- the time of a wait that begins: a timeout of 0 is refused where the call would wait, and no field is above the longest
pub wait-time : (timeout : ℤ) (waits : Bool) → mag timeout < 2 ^ 31 → le_z timeout (pos 0) && le_z (pos 0) timeout && waits ≡ false → waits ≡ true
    → From 1 longest (millis timeout) ⊎ (millis timeout ≡ endless)
wait-time (pos zero) waits h e w = absurd (false≢true (sym e ∙ w))
wait-time (pos (suc n)) waits h e w = inl (omega arith, omega arith)
wait-time (negsuc n) waits h e w = inr refl

-- ---- a search for a 0 among numbers

pub first-zero : (f : ℕ → ℕ) (a n r : ℕ) → first_where (λ i. eqb (f i) 0) (count_from a n) ≡ r → r ≢ 0 → (a ≤ r) × (r < a + n) × (f r ≡ 0)
first-zero f a zero r e d = absurd (d (sym e))
first-zero f a (suc n) r e d = go (ℕ_discrete (f a) 0) (λ q. first-zero f (suc a) n r q d)
  where
    later : List ℕ
    later = count_from (suc a) n

    go : Dec (f a ≡ 0) → (first_where (λ i. eqb (f i) 0) later ≡ r → (suc a ≤ r) × (r < suc a + n) × (f r ≡ 0)) → (a ≤ r) × (r < a + suc n) × (f r ≡ 0)
    go (yes z) rest =
        let q : a ≡ r = sym (first-here (λ i. eqb (f i) 0) a later (eq-eqb (f a) 0 z)) ∙ e in
        (omega arith, omega arith, rw q at z)
    go (no z) rest =
        let s = rest (sym (first-later (λ i. eqb (f i) 0) a later (ne_eqb (f a) 0 z)) ∙ e) in
        (omega arith, omega arith, s.2)

-- "the smallest free number"
pub unused-free : (xs : List ℕ) (last : ℕ) → unused xs last ≢ 0 → From 1 last (unused xs last) × (xs ! unused xs last ≡ 0)
unfolding unused
unused-free xs last h = let r = first-zero (λ n. xs ! n) 1 last (unused xs last) refl h in ((r.0, omega (arith, r.1)), r.2)
