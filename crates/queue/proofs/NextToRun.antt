-- The next to run, found priority by priority, is the first of the ready queue. Assumes nothing.
use Prim.Native.Nat.{ℕ, zero, suc, ◌+◌, ◌≤◌, ◌<◌}
use native.Mathlib.Omega.{arith}
use mathlib.Core.Path.{◌≡◌, refl, sym, ap, subst}
use mathlib.Core.Logic.{◌≢◌, ◌⊎◌, inl, inr}
use mathlib.Core.Bool.{Bool, true, false, false≢true}
use mathlib.Core.List.{List, [], ◌∷◌, ◌++◌}
use lib.Dec.{eqb}
use borrow.Author.Tests.{eqb-true, eqb-false, eq-eqb}
use Rattle.model.specs.Sizes.{priorities}
use Rattle.model.specs.Lists.{◌!◌, count_from, up_to, member, first_where, head_of}
use Rattle.model.specs.Facts.{Facts, ready_queue}
use Rattle.model.specs.Queue.{by_priority, sorted, ordered, order, front, search_ready, next_to_run}
use Rattle.model.proofs.ListLaws.{or_elim, or_left, or_right, member-left, member_right, member-middle}
use Rattle.queue.proofs.First.{First, sorted-first, first-unique}

-- What a search finds: nothing passes, or what is found passes and nothing before it does.
pub record Found (p : ℕ → Bool) (ts : List ℕ) (t : ℕ) : Type 0 where
  pub before : List ℕ
  pub behind : List ℕ
  pub split : ts ≡ before ++ t ∷ behind
  pub passes : p t ≡ true
  pub earlier : (u : ℕ) → member u before ≡ true → p u ≡ false

abbrev pub SearchOutcome : (ℕ → Bool) → List ℕ → ℕ → Type 0
SearchOutcome p ts t = (((u : ℕ) → member u ts ≡ true → p u ≡ false) × (t ≡ 0)) ⊎ Found p ts t

pub first_where-finds : (p : ℕ → Bool) (ts : List ℕ) → SearchOutcome p ts (first_where p ts)
first_where-finds p [] = inl ((λ u q. absurd (false≢true q)), refl)
first_where-finds p (t ∷ ts) = go (p t) refl (first_where-finds p ts)
  where
    none : p t ≡ false → (us : List ℕ) → ((u : ℕ) → member u us ≡ true → p u ≡ false) → (u : ℕ) → (eqb u t ≡ true) ⊎ (member u us ≡ true) → p u ≡ false
    none e us n u (inl q) = rw (eqb-true u t q) e
    none e us n u (inr q) = n u q

    later : (r : ℕ) → p t ≡ false → SearchOutcome p ts r → SearchOutcome p (t ∷ ts) r
    later r e (inl n) = inl ((λ u q. none e ts n.0 u (or_elim (eqb u t) (member u ts) q)), n.1)
    later r e (inr f) =
        inr
        (record {
          before = t ∷ f.before;
          behind = f.behind;
          split = ap (λ (l : List ℕ). t ∷ l) f.split;
          passes = f.passes;
          earlier = λ u q. none e f.before f.earlier u (or_elim (eqb u t) (member u f.before) q);
        })

    go : (b : Bool) → p t ≡ b → SearchOutcome p ts (first_where p ts) → SearchOutcome p (t ∷ ts) (first_where p (t ∷ ts))
    go true e rest = rw (e, first_where) (inr (record { before = []; behind = ts; split = refl; passes = e; earlier = λ u q. absurd (false≢true q) }))
    go false e rest = rw (e, first_where) (later (first_where p ts) e rest)

-- one priority of the search: nobody has it, or the oldest who has is found
module _ (current ts : List ℕ) (p : ℕ) (ps : List ℕ) where
  pub search-none : first_where (λ u. eqb (current ! u) p) ts ≡ 0 → search_ready current ts (p ∷ ps) ≡ search_ready current ts ps
  search-none e = rw (e, search_ready)

  pub search-hit : (r : ℕ) → r ≢ 0 → first_where (λ u. eqb (current ! u) p) ts ≡ r → search_ready current ts (p ∷ ps) ≡ r
  search-hit zero h e = absurd (h refl)
  search-hit (suc r) h e = rw (e, search_ready)

module _ (current ts : List ℕ) (there : (u : ℕ) → member u ts ≡ true → u ≢ 0) where
  -- a priority at which there is somebody, and nobody is more urgent: the oldest of those is the first
  oldest-first : (p r : ℕ) → ((u : ℕ) → member u ts ≡ true → p ≤ current ! u) → Found (λ u. eqb (current ! u) p) ts r → First current ts r
  oldest-first p r low f =
      record {
        before = f.before;
        behind = f.behind;
        split = f.split;
        earlier = λ u q. less u (low u (within u (member-left u f.before (r ∷ f.behind) q))) (eqb-false (current ! u) p (f.earlier u q));
        later = λ u q. let a = low u (within u (member_right u f.before (r ∷ f.behind) (or_right (eqb u r) _ q))) in omega (arith, its);
      }
    where
      its : current ! r ≡ p
      its = eqb-true (current ! r) p f.passes

      within : (u : ℕ) → member u (f.before ++ r ∷ f.behind) ≡ true → member u ts ≡ true
      within u q = subst (λ (l : List ℕ). member u l ≡ true) (sym f.split) q

      less : (u : ℕ) → p ≤ current ! u → current ! u ≢ p → current ! r < current ! u
      less u a b = let c = its in omega arith

  -- the search over n priorities from p on, where somebody stands
  search-first : (w : ℕ) → member w ts ≡ true → (n p : ℕ) → ((u : ℕ) → member u ts ≡ true → p ≤ current ! u)
      → ((u : ℕ) → member u ts ≡ true → current ! u < p + n) → First current ts (search_ready current ts (count_from p n))
  search-first w m zero p low high = let a = low w m in let b = high w m in absurd (omega arith)
  search-first w m (suc n) p low high = go (first_where-finds (λ u. eqb (current ! u) p) ts) (search-first w m n (suc p))
    where
      found : ℕ
      found = first_where (λ u. eqb (current ! u) p) ts

      less : (u : ℕ) → p ≤ current ! u → current ! u ≢ p → suc p ≤ current ! u
      less u a b = omega arith

      hit : Found (λ u. eqb (current ! u) p) ts found → found ≢ 0
      hit f = there found (subst (λ (l : List ℕ). member found l ≡ true) (sym f.split) (member-middle found f.before f.behind))

      go : SearchOutcome (λ u. eqb (current ! u) p) ts found
          → (((u : ℕ) → member u ts ≡ true → suc p ≤ current ! u) → ((u : ℕ) → member u ts ≡ true → current ! u < suc p + n)
          → First current ts (search_ready current ts (count_from (suc p) n)))
          → First current ts (search_ready current ts (count_from p (suc n)))
      go (inl o) rest =
          rw (search-none current ts p (count_from (suc p) n) o.1)
          (rest (λ u q. less u (low u q) (eqb-false (current ! u) p (o.0 u q))) (λ u q. let h = high u q in omega arith))
      go (inr f) rest = rw (search-hit current ts p (count_from (suc p) n) found (hit f) refl) (oldest-first p found low f)

search-empty : (current ps : List ℕ) → search_ready current [] ps ≡ 0
search-empty current [] = refl
search-empty current (p ∷ ps) = search-empty current ps

-- The theorem: where current priorities are in range, the search finds the first of the ready queue.
pub next-is-front : (f : Facts) (current : List ℕ) → ((u : ℕ) → member u (f.arrivals ready_queue) ≡ true → u ≢ 0)
    → ((u : ℕ) → member u (f.arrivals ready_queue) ≡ true → (1 ≤ current ! u) × (current ! u ≤ priorities))
    → next_to_run f current ≡ front f current ready_queue
unfolding next_to_run front order ordered by_priority
next-is-front f current there range = go (f.arrivals ready_queue) there range
  where
    go : (ts : List ℕ) → ((u : ℕ) → member u ts ≡ true → u ≢ 0) → ((u : ℕ) → member u ts ≡ true → (1 ≤ current ! u) × (current ! u ≤ priorities))
        → search_ready current ts (up_to priorities) ≡ head_of (sorted current ts)
    go [] there range = search-empty current (up_to priorities)
    go (t ∷ ts) there range =
        first-unique current
        (search-first current (t ∷ ts) there t (or_left (eqb t t) _ (eq-eqb t t refl)) priorities 1
        (λ u q. (range u q).0)
        (λ u q. let h = (range u q).1 in omega arith))
        (sorted-first current t ts)
