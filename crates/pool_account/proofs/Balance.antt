-- How many blocks of a pool are free before and after one of its flags changes, or none, and so whether its account balances. Assumes nothing.
use Rattle.model.proofs.Terms.{ℕ, zero, suc, ◌+◌, ◌≤◌, ◌<◌, ℕ_discrete, arith, ◌≡◌, ◌∙◌, refl, sym, ap, ◌≢◌, cond, Option, none, some, map, length-map, eqb, ◌!◌, count_from, up_to, occurrences, Pools, slot}
use Rattle.model.proofs.ListLaws.{length-keep, length-select, length-count_from, map-agree}
use Rattle.pool_account.specs.Account.{PoolAccount, with_blocks}
use Rattle.pool_account.specs.Statements.{free, OfPool}

-- ---- how many of some numbers are 0

abbrev count0 : (ℕ → ℕ) → ℕ → ℕ → ℕ
count0 f a n = occurrences 0 (map f (count_from a n))

-- numbers that differ at one place alone, and numbers that are all 0
pub count-differs : (f g : ℕ → ℕ) (b a n : ℕ) → a ≤ b → b < a + n → ((i : ℕ) → i ≢ b → f i ≡ g i)
    → count0 f a n + cond (eqb 0 (g b)) 1 0 ≡ count0 g a n + cond (eqb 0 (f b)) 1 0
count-differs f g b a zero low high h = absurd (omega arith)
count-differs f g b a (suc n) low high h =
    rw (length-keep (eqb 0 (f a)), length-keep (eqb 0 (g a))) (elim (ℕ_discrete b a) [
      | yes e ↦ rw (e, map-agree f g (suc a) n (λ i l m. h i (λ (z : i ≡ b). omega arith))) (omega arith)
      | no d ↦ rw (h a (λ e. d (sym e))) (omega (arith, count-differs f g b (suc a) n (omega arith) (omega arith) h))
    ])

pub count-all : (f : ℕ → ℕ) (a n : ℕ) → ((i : ℕ) → i < a + n → f i ≡ 0) → count0 f a n ≡ n
count-all f a zero h = refl
count-all f a (suc n) h = rw (h a (omega arith)) (ap suc (count-all f (suc a) n (λ i l. h i (omega arith))))

-- ---- a pool before and after

free-few : (x : Pools) (p : ℕ) → free x p ≤ x.count ! p
free-few x p = rw (length-map, length-count_from) at (length-select (eqb 0) (map (λ b. x.taken ! slot p b) (up_to (x.count ! p))))

module _ (x y : Pools) (p : ℕ) (same-exists : y.exists ! p ≡ x.exists ! p) (same_count : y.count ! p ≡ x.count ! p) where
  -- nothing of it changes
  pub still-balanced : ((b : ℕ) → b ≤ x.count ! p → y.taken ! slot p b ≡ x.taken ! slot p b) → (e : Option PoolAccount) → OfPool x p e → OfPool y p e
  still-balanced f none h = same-exists ∙ h
  still-balanced f (some e) h =
      let same-free : free y p ≡ free x p = rw (same_count, map-agree _ _ 1 (x.count ! p) (λ b low high. f b (omega arith))) in
      record { there = same-exists ∙ h.there; counted = h.counted ∙ sym same_count; enough = h.enough; balance = rw same-free h.balance }

  -- so many blocks are given and taken back
  pub blocks-balanced : (given back : ℕ) → free y p + given ≡ free x p + back → (e : Option PoolAccount) → OfPool x p e
      → OfPool y p (mathlib.Core.Option.map (with_blocks given back) e)
  blocks-balanced given back f none h = same-exists ∙ h
  blocks-balanced given back f (some e) h =
      let few = free-few y p in
      record { there = same-exists ∙ h.there; counted = h.counted ∙ sym same_count; enough = omega arith; balance = omega arith }
