-- What arrivals and departures do to any queue, and why the arrival order is never used up. Assumes nothing.
use Prim.Native.Nat.{ℕ, zero, suc, ◌-◌, ◌≤◌, ◌<◌}
use native.Mathlib.Nat.{sub-zero, suc-sub-suc}
use native.Mathlib.Decide.{ℕ_discrete}
use native.Mathlib.Omega.{arith}
use mathlib.Core.Path.{◌≡◌, ◌∙◌, refl, sym, ap, subst}
use mathlib.Core.Logic.{◌≢◌, ◌⊎◌, inl, inr}
use mathlib.Core.Bool.{Bool, true, false, ◌&&◌, ◌||◌, not, false≢true, and-false, and-eq-true_iff}
use mathlib.Core.List.{List, [], ◌∷◌, ◌++◌, append-nil}
use lib.ListN.{length, take, length-append}
use lib.Seq.{get_or-set_same, get_or-set_other}
use lib.Dec.{eqb}
use borrow.Author.Tests.{eqb-true, eq-eqb, ne_eqb, le-leb}
use Rattle.model.specs.Sizes.{tasks}
use Rattle.model.specs.Lists.{up_to, zeros, padded, keep, select, member, without, occurrences}
use Rattle.model.specs.Facts.{Queue}
use Rattle.model.specs.Kernel.{Kernel, others, departed, arrived, stands_in, facts, with_arrivals, with_place, with_object, with_currents}
use Rattle.model.specs.Act.{arrive}
use Rattle.model.proofs.ListLaws.{select-member, length-select, or_elim, or_left, or_right, without-keeps, without-shorter, length-count_from, member-count_from, take-zeros}

-- ---- selecting

module _ (p : ℕ → Bool) where
  pub select-append : (xs ys : List ℕ) → select p (xs ++ ys) ≡ select p xs ++ select p ys
  select-append [] ys = refl
  select-append (x ∷ xs) ys = go (p x) (select-append xs ys)
    where
      go : (b : Bool) → select p (xs ++ ys) ≡ select p xs ++ select p ys → keep b x (select p (xs ++ ys)) ≡ keep b x (select p xs) ++ select p ys
      go true e = ap (λ (l : List ℕ). x ∷ l) e
      go false e = e

  select-zeros : p 0 ≡ false → (n : ℕ) → select p (zeros n) ≡ []
  select-zeros e zero = refl
  select-zeros e (suc n) = rw e (select-zeros e n)

-- zeros behind a list that fits
take-padded : (n m : ℕ) (xs : List ℕ) → length xs ≤ n → n ≤ m → take n (xs ++ zeros m) ≡ xs ++ zeros (n - length xs)
take-padded n m [] h k = rw sub-zero (take-zeros n m k)
take-padded zero m (x ∷ xs) h k = absurd (omega arith)
take-padded (suc n) m (x ∷ xs) h k = rw suc-sub-suc (ap (λ (l : List ℕ). x ∷ l) (take-padded n m xs (omega arith) (omega arith)))

pub padded-is : (n : ℕ) (xs : List ℕ) → length xs ≤ n → padded n xs ≡ xs ++ zeros (n - length xs)
padded-is n xs h = take-padded n n xs h (omega arith)

pub select-padded : (p : ℕ → Bool) (n : ℕ) (xs : List ℕ) → p 0 ≡ false → length xs ≤ n → select p (padded n xs) ≡ select p xs
select-padded p n xs e h = rw (padded-is n xs h, select-append, select-zeros p e (n - length xs), append-nil)

-- ---- one task taken out

pub length-others : (t : ℕ) (ts : List ℕ) → length (others t ts) ≤ length ts
unfolding others
length-others t ts = length-select _ ts

-- Two tests that agree at every task but t, and fail at 0: of the tasks other than t they select what was selected, less t.
module _ (p q : ℕ → Bool) (t : ℕ) (p-none : p 0 ≡ false) (same : (u : ℕ) → u ≢ t → q u ≡ p u) where
  others-cons : (u : ℕ) (us vs : List ℕ) → select q us ≡ without t vs
      → select q (keep (not (eqb u 0) && not (eqb u t)) u us) ≡ without t (keep (p u) u vs)
  others-cons u us vs rest = go (ℕ_discrete u t) (ℕ_discrete u 0)
    where
      kept : u ≢ t → (b : Bool) → keep b u (select q us) ≡ without t (keep b u vs)
      kept d true = rw (ne_eqb t u (λ o. d (sym o))) (ap (λ (l : List ℕ). u ∷ l) rest)
      kept d false = rest

      gone : (b : Bool) → u ≡ t → select q us ≡ without t (keep b u vs)
      gone true e = rw (eq-eqb t u (sym e)) rest
      gone false e = rest

      out : (b : Bool) → select q (keep (b && false) u us) ≡ select q us
      out true = refl
      out false = refl

      go : Dec (u ≡ t) → Dec (u ≡ 0) → select q (keep (not (eqb u 0) && not (eqb u t)) u us) ≡ without t (keep (p u) u vs)
      go (yes e) z = rw (eq-eqb u t e) (out (not (eqb u 0)) ∙ gone (p u) e)
      go (no d) (yes z) = rw (eq-eqb u 0 z, ap p z ∙ p-none) rest
      go (no d) (no z) = rw (ne_eqb u 0 z, ne_eqb u t d, same u d) (kept d (p u))

  pub select-others : (ts : List ℕ) → select q (others t ts) ≡ without t (select p ts)
  unfolding others
  select-others [] = refl
  select-others (u ∷ us) = others-cons u (others t us) (select p us) (select-others us)

  -- after a departure: what was selected, less the task
  pub select-departed : (ts : List ℕ) → q 0 ≡ false → select q (departed t ts) ≡ without t (select p ts)
  unfolding departed
  select-departed ts q-none = select-padded q (length ts) (others t ts) q-none (length-others t ts) ∙ select-others ts

  -- after an arrival: the same, with the task last where the test selects it now
  pub select-arrived : (ts : List ℕ) → q 0 ≡ false → length (others t ts) < length ts
      → select q (arrived t ts) ≡ without t (select p ts) ++ keep (q t) t []
  unfolding arrived
  select-arrived ts q-none room =
      select-padded q (length ts) (others t ts ++ t ∷ []) q-none (rw length-append (omega arith))
      ∙ select-append q (others t ts) (t ∷ [])
      ∙ ap (λ (l : List ℕ). l ++ keep (q t) t []) (select-others ts)

-- ---- any queue of the kernel

abbrev pub same_queue : Queue → Queue → Bool
same_queue q r = eqb q.place r.place && eqb q.object r.object

stands-none : (k : Kernel) (q : Queue) → stands_in k q 0 ≡ false
unfolding stands_in
stands-none k q = refl

module _ (k : Kernel) (t : ℕ) (q : Queue) where
  -- where others stand does not change when a task arrives somewhere
  stands-others : (r : Queue) (u : ℕ) → u ≢ t → stands_in (arrive k t q) r u ≡ stands_in k r u
  unfolding stands_in arrive with_arrivals with_object with_place
  stands-others r u d = rw (get_or-set_other k.tasks.place t u q.place 0 d, get_or-set_other k.tasks.object t u q.object 0 d)

  -- the task stands in its new queue, and in no other
  stands-itself : (r : Queue) → 1 ≤ t → t ≤ tasks → t < length k.tasks.place → t < length k.tasks.object → stands_in (arrive k t q) r t ≡ same_queue q r
  unfolding stands_in arrive with_arrivals with_object with_place
  stands-itself r l h a b = rw (le-leb 1 t l, le-leb t tasks h, get_or-set_same k.tasks.place t q.place 0 a, get_or-set_same k.tasks.object t q.object 0 b)

  -- An arrival: every queue is what it was, less the task; its own queue has it last.
  pub arrive-queue : (r : Queue) → 1 ≤ t → t ≤ tasks → t < length k.tasks.place → t < length k.tasks.object → length (others t k.arrivals) < length k.arrivals
      → (facts (arrive k t q)).arrivals r ≡ without t ((facts k).arrivals r) ++ keep (same_queue q r) t []
  unfolding facts
  arrive-queue r l h a b room =
      ap (λ (ts : List ℕ). select (stands_in (arrive k t q) r) ts) after
      ∙ select-arrived (stands_in k r) (stands_in (arrive k t q) r) t (stands-none k r) (stands-others r) k.arrivals (stands-none (arrive k t q) r) room
      ∙ ap (λ (c : Bool). without t (select (stands_in k r) k.arrivals) ++ keep c t []) (stands-itself r l h a b)
    where
      after : (arrive k t q).arrivals ≡ arrived t k.arrivals
      after = unfold arrive with_arrivals with_object with_place in refl

-- A departure: every queue is what it was, less the task.
module _ (k : Kernel) (t place : ℕ) where
  abbrev pub depart : Kernel
  depart = with_place (with_arrivals k (departed t k.arrivals)) t place

  departs-others : (r : Queue) (u : ℕ) → u ≢ t → stands_in depart r u ≡ stands_in k r u
  unfolding stands_in with_arrivals with_place
  departs-others r u d = rw (get_or-set_other k.tasks.place t u place 0 d)

  pub depart-queue : (r : Queue) → (facts depart).arrivals r ≡ without t ((facts k).arrivals r)
  unfolding facts
  depart-queue r =
      ap (λ (ts : List ℕ). select (stands_in depart r) ts) after
      ∙ select-departed (stands_in k r) (stands_in depart r) t (stands-none k r) (departs-others r) k.arrivals (stands-none depart r)
    where
      after : depart.arrivals ≡ departed t k.arrivals
      after = unfold with_arrivals with_place in refl

-- A change of current priorities alone changes no arrivals.
pub currents-queue : (k : Kernel) (v : List ℕ) (r : Queue) → (facts (with_currents k v)).arrivals r ≡ (facts k).arrivals r
unfolding facts with_currents stands_in
currents-queue k v r = refl

-- ---- no task is listed twice, and there is always room

module _ (p : ℕ → Bool) where
  -- what is selected passes and was there
  pub member-select : (u : ℕ) (xs : List ℕ) → member u (select p xs) ≡ true → (p u ≡ true) × (member u xs ≡ true)
  member-select u xs e = (and-eq-true_iff (p u) (member u xs)).0 (sym (select-member p u xs) ∙ e)

  -- what does not pass is nowhere in it
  pub select-without : (u : ℕ) (xs : List ℕ) → p u ≡ false → occurrences u (select p xs) ≡ 0
  select-without u [] e = refl
  select-without u (x ∷ xs) e = go (p x) refl (select-without u xs e)
    where
      go : (b : Bool) → p x ≡ b → occurrences u (select p xs) ≡ 0 → occurrences u (keep b x (select p xs)) ≡ 0
      go true f rest = rw (ne_eqb u x (λ q. false≢true (sym e ∙ ap p q ∙ f))) rest
      go false f rest = rest

  -- and nothing is in it more often than it was
  pub select-fewer : (u : ℕ) (xs : List ℕ) → occurrences u (select p xs) ≤ occurrences u xs
  select-fewer u [] = omega arith
  select-fewer u (x ∷ xs) = go (p x) (eqb u x) (select-fewer u xs)
    where
      more : (c : Bool) → occurrences u (select p xs) ≤ occurrences u xs → length (keep c x (select (eqb u) (select p xs))) ≤ length (keep c x (select (eqb u) xs))
      more true h = omega arith
      more false h = h

      over : (c : Bool) → occurrences u (select p xs) ≤ occurrences u xs → occurrences u (select p xs) ≤ length (keep c x (select (eqb u) xs))
      over true h = omega arith
      over false h = h

      go : (b c : Bool) → occurrences u (select p xs) ≤ occurrences u xs → occurrences u (keep b x (select p xs)) ≤ length (keep (eqb u x) x (select (eqb u) xs))
      go true c h = more (eqb u x) h
      go false c h = over (eqb u x) h

member-occurs : (u : ℕ) (xs : List ℕ) → member u xs ≡ true → 1 ≤ occurrences u xs
member-occurs u [] e = absurd (false≢true e)
member-occurs u (x ∷ xs) e = go (eqb u x) refl e (member-occurs u xs)
  where
    go : (b : Bool) → eqb u x ≡ b → b || member u xs ≡ true → (member u xs ≡ true → 1 ≤ occurrences u xs) → 1 ≤ length (keep b x (select (eqb u) xs))
    go true f m rest = omega arith
    go false f m rest = rest m

occurs-tail : (x : ℕ) (l : List ℕ) (b : Bool) → length (keep b x l) ≤ 1 → length l ≤ 1
occurs-tail x l true h = omega arith
occurs-tail x l false h = h

-- numbers that are all among some others, none of them twice, are no more than those
pub no_more : (xs ys : List ℕ) → ((u : ℕ) → member u xs ≡ true → member u ys ≡ true) → ((u : ℕ) → occurrences u xs ≤ 1) → length xs ≤ length ys
no_more [] ys h o = omega arith
no_more (x ∷ xs) ys h o =
    let a = no_more xs (without x ys) (λ u m. without-keeps x u ys (fresh u m) (h u (or_right (eqb u x) _ m))) (λ u. occurs-tail x _ (eqb u x) (o u)) in
    let b = without-shorter x ys (h x (or_left (eqb x x) _ (eq-eqb x x refl))) in
    omega arith
  where
    twice : occurrences x (x ∷ xs) ≡ suc (occurrences x xs)
    twice = rw (eq-eqb x x refl)

    fresh : (u : ℕ) → member u xs ≡ true → u ≢ x
    fresh u m e = let a = member-occurs x xs (rw e at m) in let b = o x in let c = twice in omega arith

-- Arrivals are well listed: no task twice, no number beyond the tasks.
pub record Listed (ts : List ℕ) : Type 0 where
  pub once : (u : ℕ) → u ≢ 0 → occurrences u ts ≤ 1
  pub range : (u : ℕ) → member u ts ≡ true → u ≤ tasks

module _ (t : ℕ) (low : 1 ≤ t) (high : t ≤ tasks) (ts : List ℕ) (listed : Listed ts) where
  abbrev other : ℕ → Bool
  other u = not (eqb u 0) && not (eqb u t)

  other-t : other t ≡ false
  other-t = rw (eq-eqb t t refl) (and-false (not (eqb t 0)))

  -- the others: none is t or 0, none stands twice
  pub others-few : (u : ℕ) → u ≢ t → occurrences u (others t ts) ≤ 1
  unfolding others
  others-few u d = go (ℕ_discrete u 0)
    where
      go : Dec (u ≡ 0) → occurrences u (select other ts) ≤ 1
      go (yes e) = let a = select-without other u ts (ap other e) in omega arith
      go (no f) = let a = select-fewer other u ts in let b = listed.once u f in omega arith

  pub others-gone : occurrences t (others t ts) ≡ 0
  unfolding others
  others-gone = select-without other t ts other-t

  others-once : (u : ℕ) → occurrences u (t ∷ others t ts) ≤ 1
  others-once u = go (ℕ_discrete u t)
    where
      go : Dec (u ≡ t) → occurrences u (t ∷ others t ts) ≤ 1
      go (yes e) = subst (λ (v : ℕ). occurrences v (t ∷ others t ts) ≤ 1) (sym e) (rw (eq-eqb t t refl) (let a = others-gone in omega arith))
      go (no d) = rw (ne_eqb u t d) (others-few u d)

  others-in : (u : ℕ) → member u (others t ts) ≡ true → (u ≢ 0) × (u ≤ tasks)
  unfolding others
  others-in u m =
      let s = member-select other u ts m in
      ((λ e. false≢true (sym (ap other e) ∙ s.0)), listed.range u s.1)

  others-member : (u : ℕ) → member u (t ∷ others t ts) ≡ true → member u (up_to tasks) ≡ true
  others-member u m = go (or_elim (eqb u t) _ m)
    where
      in-range : 1 ≤ u → u ≤ tasks → member u (up_to tasks) ≡ true
      in-range a b = member-count_from 1 tasks u a (omega arith)

      go : (eqb u t ≡ true) ⊎ (member u (others t ts) ≡ true) → member u (up_to tasks) ≡ true
      go (inl q) = let e = eqb-true u t q in in-range (omega arith) (omega arith)
      go (inr q) = let s = others-in u q in in-range (let n = s.0 in omega arith) s.1

  -- so there is always room for t
  pub room : length (others t ts) < tasks
  room = let a = no_more (t ∷ others t ts) (up_to tasks) others-member others-once in omega (arith, length-count_from 1 tasks)
