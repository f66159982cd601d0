-- The searches of a queue, place after place of the arrival order: what is left to look at decides what is found. Assumes nothing.
use Prim.Native.Nat.{ℕ, ◌+◌, ◌≤◌, ◌<◌}
use native.Mathlib.Numerals.{add-one}
use native.Mathlib.Omega.{arith}
use mathlib.Core.Path.{◌≡◌, ◌∙◌, refl, sym, ap, ap₂}
use mathlib.Core.Logic.{◌≢◌, ◌⊎◌, inl, inr}
use mathlib.Core.Bool.{Bool, true, false, ◌||◌, cond}
use mathlib.Core.List.{List, [], ◌∷◌, foldl}
use lib.ListN.{length, drop, drop_of_length-le}
use lib.Seq.{drop-cons}
use lib.Dec.{eqb, leb}
use borrow.Author.Tests.{eq-eqb}
use Rattle.model.specs.Sizes.{tasks}
use Rattle.model.specs.Lists.{◌!◌, keep, select, member, head_of}
use Rattle.model.specs.Facts.{Queue}
use Rattle.model.specs.Queue.{insert, sorted}
use Rattle.model.specs.Kernel.{Kernel, numbered, stands_in}
use Rattle.model.proofs.ListLaws.{or_left, or_right}
use Rattle.model.proofs.NumberLaws.{numbered-at}
use Rattle.queue.proofs.ArrivalLaws.{member-select}
use Rattle.queue.proofs.Order.{member-insert, insert-less, insert-more}
use Rattle.queue.specs.Better.{better}
use Rattle.queue.proofs.First.{pass}
use Rattle.queue.proofs.Standing.{stands-task}

module _ (p : ℕ → Bool) (a : List ℕ) (i : ℕ) where
  from-here : i < length a → select p (drop i a) ≡ keep (p (a ! i)) (a ! i) (select p (drop (i + 1) a))
  from-here h = rw (drop-cons a i 0 h, add-one)

  pub nobody-left : length a ≤ i → select p (drop i a) ≡ []
  nobody-left h = rw (drop_of_length-le a {i = i} h)

  -- the first who stands there
  pub first-hit : i < length a → p (a ! i) ≡ true → head_of (select p (drop i a)) ≡ a ! i
  first-hit h e = rw (from-here h, e)

  pub first-miss : i < length a → p (a ! i) ≡ false → head_of (select p (drop i a)) ≡ head_of (select p (drop (i + 1) a))
  first-miss h e = rw (from-here h, e)

  -- the best of all who stand there, from the best so far
  module _ (current : List ℕ) (best : ℕ) where
    pub best-more : i < length a → foldl (better current) best (select p (drop i a))
        ≡ foldl (better current) (cond (p (a ! i)) (better current best (a ! i)) best) (select p (drop (i + 1) a))
    best-more h = rw (from-here h) (go (p (a ! i)))
      where
        go : (b : Bool) → foldl (better current) best (keep b (a ! i) (select p (drop (i + 1) a)))
            ≡ foldl (better current) (cond b (better current best (a ! i)) best) (select p (drop (i + 1) a))
        go true = refl
        go false = refl

    pub best-end : length a ≤ i → foldl (better current) best (select p (drop i a)) ≡ best
    best-end h = rw (nobody-left h)

-- ---- priorities that agree at the tasks of a queue sort it alike

module _ (xs ys : List ℕ) where
  insert-agree : (t : ℕ) (us : List ℕ) → xs ! t ≡ ys ! t → ((u : ℕ) → member u us ≡ true → xs ! u ≡ ys ! u) → insert xs t us ≡ insert ys t us
  insert-agree t [] e h = refl
  insert-agree t (u ∷ us) e h = go (leb (ys ! t) (ys ! u)) refl (insert-agree t us e (λ v m. h v (or_right (eqb v u) _ m)))
    where
      there : xs ! u ≡ ys ! u
      there = h u (or_left (eqb u u) _ (eq-eqb u u refl))

      same : leb (xs ! t) (xs ! u) ≡ leb (ys ! t) (ys ! u)
      same = ap₂ leb e there

      go : (b : Bool) → leb (ys ! t) (ys ! u) ≡ b → insert xs t us ≡ insert ys t us → insert xs t (u ∷ us) ≡ insert ys t (u ∷ us)
      go true f rest = insert-less xs t u us (same ∙ f) ∙ sym (insert-less ys t u us f)
      go false f rest = insert-more xs t u us (same ∙ f) ∙ ap (λ (l : List ℕ). u ∷ l) rest ∙ sym (insert-more ys t u us f)

  member-sorted : (u : ℕ) (ts : List ℕ) → member u (sorted xs ts) ≡ true → member u ts ≡ true
  member-sorted u [] m = m
  member-sorted u (t ∷ ts) m = go (member-insert xs u t (sorted xs ts) m) (member-sorted u ts)
    where
      go : (u ≡ t) ⊎ (member u (sorted xs ts) ≡ true) → (member u (sorted xs ts) ≡ true → member u ts ≡ true) → eqb u t || member u ts ≡ true
      go (inl e) rest = or_left (eqb u t) _ (eq-eqb u t e)
      go (inr q) rest = or_right (eqb u t) _ (rest q)

  pub sorted-agree : (ts : List ℕ) → ((u : ℕ) → member u ts ≡ true → xs ! u ≡ ys ! u) → sorted xs ts ≡ sorted ys ts
  sorted-agree [] h = refl
  sorted-agree (t ∷ ts) h =
      insert-agree t (sorted xs ts) (h t (or_left (eqb t t) _ (eq-eqb t t refl))) (λ u m. h u (or_right (eqb u t) _ (member-sorted u ts m)))
      ∙ ap (insert ys t) (sorted-agree ts (λ u m. h u (or_right (eqb u t) _ m)))

-- one pass finds the first of a queue by priority
pub best-of-all : (k : Kernel) (q : Queue)
    → foldl (better (numbered k.tasks.current)) 0 (select (stands_in k q) k.arrivals) ≡ head_of (sorted k.tasks.current (select (stands_in k q) k.arrivals))
best-of-all k q =
    pass (numbered k.tasks.current) ts (λ u m. let h = task u m in let l = h.0 in λ e. not-zero u l e)
    ∙ ap head_of (sorted-agree (numbered k.tasks.current) k.tasks.current ts (λ u m. numbered-at k.tasks.current u (task u m).0))
  where
    ts : List ℕ
    ts = select (stands_in k q) k.arrivals

    task : (u : ℕ) → member u ts ≡ true → (1 ≤ u) × (u ≤ tasks)
    task u m = stands-task k q u (member-select (stands_in k q) u k.arrivals m).0

    not-zero : (u : ℕ) → 1 ≤ u → u ≢ 0
    not-zero u l = omega arith
