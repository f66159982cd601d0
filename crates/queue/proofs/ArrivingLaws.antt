-- What the steps of an arrival do to the lent words.
use Prim.Native.Nat.{ℕ, suc, ◌+◌, ◌-◌, ◌≤◌, ◌<◌, max}
use native.Mathlib.Nat.{sub_self}
use native.Mathlib.Numerals.{add-one}
use native.Mathlib.Omega.{arith}
use mathlib.Core.Path.{◌≡◌, ◌∙◌, refl, sym, ap, ap₂}
use mathlib.Core.Bool.{true, false, not, and-false}
use mathlib.Core.List.{List, [], ◌∷◌, ◌++◌, append-nil, append_assoc}
use lib.Dec.{eqb}
use borrow.Author.Tests.{eq-eqb, ne_eqb}
use lib.ListN.{length, take, drop, set, length-append, length-take, length-replicate, take-append-drop, replicate-append-replicate, drop_of_length-le}
use lib.Seq.{drop-cons}
use Rattle.model.specs.Sizes.{tasks}
use Rattle.model.specs.Lists.{◌!◌, zeros}
use Rattle.model.specs.Facts.{queue}
use Rattle.model.specs.Kernel.{Kernel, others, departed, arrived, with_arrivals, with_place, with_object}
use Rattle.model.specs.World.{with_fresh_bit}
use Rattle.model.specs.Act.{arrive}
use Rattle.model.specs.Words.{word_count, kernel}
use Rattle.state.specs.Words.{with_arrival, Represents}
use Rattle.state.proofs.WordLaws.{arrivals-long}
use Rattle.queue.specs.Arriving.{Kept, Gathered, cleared_from, other, kept_arrivals, kept_count}
use Rattle.queue.proofs.Gather.{gathered, count, gathered-start, count-start, gathered-step, gathered-all, count-step, count-all, count-le, set-seam, cleared, departed-is, arrived-is}

-- ---- when each step does that

other_none : (t u : ℕ) → u ≡ 0 → other t u ≡ false
other_none t u e = rw (eq-eqb u 0 e)

other-itself : (t u : ℕ) → u ≡ t → other t u ≡ false
other-itself t u e = rw (eq-eqb u t e) (and-false (not (eqb u 0)))

same-arrivals : (k : Kernel) → with_arrivals k k.arrivals ≡ k
unfolding with_arrivals
same-arrivals k = refl

pub the-arrivals : (k : Kernel) (x : List ℕ) → (with_arrivals k x).arrivals ≡ x
unfolding with_arrivals
the-arrivals k x = refl

module _ (t i j : ℕ) (w : List ℕ) (n : length w ≡ word_count) where
  passed : other t ((kernel w).arrivals ! i) ≡ false → Kept t i j w w j
  passed e =
      record {
        state = record { length = n; kernel = sym (rw e (same-arrivals (kernel w))) };
        count = rw e;
      }

  pub kept-none : (u : ℕ) → u ≡ (kernel w).arrivals ! i → u ≡ 0 → Kept t i j w w j
  kept-none u e z = passed (other_none t ((kernel w).arrivals ! i) (sym e ∙ z))

  pub kept-itself : (u : ℕ) → u ≡ (kernel w).arrivals ! i → u ≡ t → Kept t i j w w j
  kept-itself u e z = passed (other-itself t ((kernel w).arrivals ! i) (sym e ∙ z))

  pub kept-other : (u : ℕ) (v : List ℕ) → u ≡ (kernel w).arrivals ! i → (u ≡ 0 → ⊥) → (u ≡ t → ⊥) → Represents v (with_arrival (kernel w) j u) → Kept t i j w v (j + 1)
  kept-other u v e z d r =
      record {
        state = record { length = r.length; kernel = r.kernel ∙ rw (yes-other, ← e) };
        count = rw yes-other;
      }
    where
      yes-other : other t ((kernel w).arrivals ! i) ≡ true
      yes-other = rw (← e, ne_eqb u 0 z, ne_eqb u t d)

-- ---- gathering, place after place

pub record Gathering (t : ℕ) (w v : List ℕ) (j i : ℕ) : Type 0 where
  pub start : length w ≡ word_count
  pub state : Represents v (with_arrivals (kernel w) (gathered t (kernel w).arrivals i))
  pub counted : j ≡ count t (kernel w).arrivals i
  pub few : j ≤ i
  pub within : i ≤ tasks

over : (k : Kernel) (x : List ℕ) (f : List ℕ → List ℕ) → with_arrivals (with_arrivals k x) (f (with_arrivals k x).arrivals) ≡ with_arrivals k (f x)
unfolding with_arrivals
over k x f = refl

pub gather-start : (t : ℕ) (w : List ℕ) → length w ≡ word_count → Gathering t w w 0 0
gather-start t w n =
    record {
      start = n;
      state = record { length = n; kernel = sym (ap (with_arrivals (kernel w)) (gathered-start t (kernel w).arrivals) ∙ same-arrivals (kernel w)) };
      counted = sym (count-start t (kernel w).arrivals);
      few = omega arith;
      within = omega arith;
    }

pub gather-more : (t : ℕ) (w v u : List ℕ) (j i r : ℕ) → i < tasks → Gathering t w v j i → Kept t i j v u r → Gathering t w u r (i + 1)
gather-more t w v u j i r h g k =
    record {
      start = g.start;
      state =
          record {
            length = k.state.length;
            kernel =
                k.state.kernel
                ∙ ap (λ (x : Kernel). with_arrivals x (kept_arrivals t i j x.arrivals)) g.state.kernel
                ∙ over (kernel w) (gathered t a i) (kept_arrivals t i j)
                ∙ ap (λ (n : ℕ). with_arrivals (kernel w) (kept_arrivals t i n (gathered t a i))) g.counted
                ∙ ap (with_arrivals (kernel w)) (gathered-step t a i inside)
                ∙ ap (λ (n : ℕ). with_arrivals (kernel w) (gathered t a n)) (sym (add-one i));
          };
      counted = counting;
      few = let l = count-le t a (i + 1) in let e = counting in omega arith;
      within = omega arith;
    }
  where
    a : List ℕ
    a = (kernel w).arrivals

    inside : i < length a
    inside = let l = arrivals-long w g.start in omega arith

    counting : r ≡ count t a (i + 1)
    counting =
        k.count
        ∙ ap (λ (x : Kernel). kept_count t i j x.arrivals) g.state.kernel
        ∙ ap (kept_count t i j) (the-arrivals (kernel w) (gathered t a i))
        ∙ ap (λ (n : ℕ). kept_count t i n (gathered t a i)) g.counted
        ∙ count-step t a i inside
        ∙ ap (count t a) (sym (add-one i))

pub gather-done : (t : ℕ) (w v : List ℕ) (j i : ℕ) → tasks ≤ i → Gathering t w v j i → Gathered t w v j
gather-done t w v j i h g =
    record {
      state = record { length = g.state.length; kernel = g.state.kernel ∙ ap (λ (n : ℕ). with_arrivals (kernel w) (gathered t a n)) all ∙ ap (with_arrivals (kernel w)) (gathered-all t a) };
      count = g.counted ∙ ap (count t a) all ∙ count-all t a;
      few = let f = g.few in let l = g.within in omega arith;
    }
  where
    a : List ℕ
    a = (kernel w).arrivals

    all : i ≡ length a
    all = let l = arrivals-long w g.start in let e = g.within in omega arith

-- ---- clearing, place after place

unfoldable pub clearing : ℕ → ℕ → List ℕ → List ℕ
clearing from i a = (take from a ++ zeros (i - from)) ++ drop i a

pub record Clearing (w v : List ℕ) (from i : ℕ) : Type 0 where
  pub start : length w ≡ word_count
  pub state : Represents v (with_arrivals (kernel w) (clearing from i (kernel w).arrivals))
  pub low : from ≤ i
  pub high : i ≤ max tasks from

clearing-start : (from : ℕ) (a : List ℕ) → clearing from from a ≡ a
unfolding clearing
clearing-start from a = rw (sub_self, append-nil) (take-append-drop from a)

zeros-snoc : (n : ℕ) → zeros (n + 1) ≡ zeros n ++ 0 ∷ []
zeros-snoc n = sym (replicate-append-replicate n 1 0)

clearing-step : (from i : ℕ) (a : List ℕ) → from ≤ i → i < length a → set (clearing from i a) i 0 ≡ clearing from (i + 1) a
unfolding clearing
clearing-step from i a low h =
    ap (λ (l : List ℕ). set ((take from a ++ zeros (i - from)) ++ l) i 0) (drop-cons a i 0 h)
    ∙ ap (λ (n : ℕ). set ((take from a ++ zeros (i - from)) ++ a ! i ∷ drop (suc i) a) n 0) (sym long)
    ∙ set-seam (take from a ++ zeros (i - from)) (drop (suc i) a) (a ! i) 0
    ∙ sym (append_assoc (take from a ++ zeros (i - from)) (0 ∷ []) (drop (suc i) a))
    ∙ ap (λ (l : List ℕ). l ++ drop (suc i) a) (append_assoc (take from a) (zeros (i - from)) (0 ∷ []))
    ∙ ap (λ (l : List ℕ). (take from a ++ l) ++ drop (suc i) a) (sym (zeros-snoc (i - from)))
    ∙ ap₂ (λ (m n : ℕ). (take from a ++ zeros m) ++ drop n a) more (sym (add-one i))
  where
    long : length (take from a ++ zeros (i - from)) ≡ i
    long = rw (length-append, length-take, length-replicate) (omega arith)

    more : i - from + 1 ≡ i + 1 - from
    more = omega arith

pub clear-start : (w : List ℕ) (from : ℕ) → length w ≡ word_count → Clearing w w from from
clear-start w from n =
    record {
      start = n;
      state = record { length = n; kernel = sym (ap (with_arrivals (kernel w)) (clearing-start from (kernel w).arrivals) ∙ same-arrivals (kernel w)) };
      low = omega arith;
      high = omega arith;
    }

pub clear-more : (w v u : List ℕ) (from i : ℕ) → i < tasks → Clearing w v from i → Represents u (with_arrival (kernel v) i 0) → Clearing w u from (i + 1)
clear-more w v u from i h g r =
    record {
      start = g.start;
      state =
          record {
            length = r.length;
            kernel =
                r.kernel
                ∙ ap (λ (x : Kernel). with_arrival x i 0) g.state.kernel
                ∙ over (kernel w) (clearing from i (kernel w).arrivals) (λ l. set l i 0)
                ∙ ap (with_arrivals (kernel w)) (clearing-step from i (kernel w).arrivals g.low (let l = arrivals-long w g.start in omega arith));
          };
      low = let l = g.low in omega arith;
      high = omega arith;
    }

pub clear-done : (w v : List ℕ) (from i : ℕ) → tasks ≤ i → Clearing w v from i → Represents v (cleared_from from (kernel w))
unfolding clearing
clear-done w v from i h g =
    record {
      length = g.state.length;
      kernel = g.state.kernel ∙ ap (with_arrivals (kernel w)) end;
    }
  where
    a : List ℕ
    a = (kernel w).arrivals

    n : length a ≡ tasks
    n = arrivals-long w g.start

    m : i - from ≡ length a - from
    m = let e = n in let l = g.low in let u = g.high in omega arith

    end : clearing from i a ≡ take from a ++ zeros (length a - from)
    end = ap (λ (l : List ℕ). (take from a ++ zeros (i - from)) ++ l) (drop_of_length-le a {i = i} (let e = n in omega arith)) ∙ append-nil (take from a ++ zeros (i - from)) ∙ ap (λ (k : ℕ). take from a ++ zeros k) m

-- ---- the whole act

cleared-after : (k : Kernel) (x : List ℕ) (n : ℕ) → cleared_from n (with_arrivals k x) ≡ with_arrivals k (take n x ++ zeros (length x - n))
unfolding with_arrivals
cleared-after k x n = refl

pub departs : (t : ℕ) (w v u : List ℕ) (j : ℕ) → Gathered t w v j → Represents u (cleared_from j (kernel v)) → Represents u (with_arrivals (kernel w) (departed t (kernel w).arrivals))
departs t w v u j g r =
    record {
      length = r.length;
      kernel =
          r.kernel
          ∙ ap (cleared_from j) g.state.kernel
          ∙ cleared-after (kernel w) _ j
          ∙ ap (λ (n : ℕ). with_arrivals (kernel w) (cleared t a n (others t a ++ drop (length (others t a)) a))) g.count
          ∙ ap (with_arrivals (kernel w)) (departed-is t a);
    }
  where
    a : List ℕ
    a = (kernel w).arrivals

pub arrives-last : (t : ℕ) (w v u x : List ℕ) (j n : ℕ) → Gathered t w v j → n ≡ t → Represents u (with_arrival (kernel v) j n) → Represents x (cleared_from (j + 1) (kernel u))
    → Represents x (with_arrivals (kernel w) (arrived t (kernel w).arrivals))
arrives-last t w v u x j n g e s r =
    record {
      length = r.length;
      kernel =
          r.kernel
          ∙ ap (cleared_from (j + 1)) (s.kernel ∙ ap (λ (m : ℕ). with_arrival (kernel v) j m) e ∙ ap (λ (k : Kernel). with_arrival k j t) g.state.kernel ∙ over (kernel w) _ (λ l. set l j t))
          ∙ cleared-after (kernel w) _ (j + 1)
          ∙ ap (λ (n : ℕ). with_arrivals (kernel w) (cleared t a (n + 1) (set (others t a ++ drop (length (others t a)) a) n t))) g.count
          ∙ ap (with_arrivals (kernel w)) (arrived-is t a);
    }
  where
    a : List ℕ
    a = (kernel w).arrivals

pub arrives : (t place object : ℕ) (w v u x y : List ℕ) → Represents v (with_place (kernel w) t place) → Represents u (with_object (kernel v) t object)
    → Represents x (with_arrivals (kernel u) (arrived t (kernel u).arrivals)) → Represents y (with_fresh_bit (kernel x) ((kernel x).tasks.current ! t))
    → Represents y (arrive (kernel w) t (queue place object))
arrives t place object w v u x y p o r b =
    record {
      length = b.length;
      kernel =
          b.kernel ∙ ap (λ (k : Kernel). with_fresh_bit k (k.tasks.current ! t))
          (r.kernel
          ∙ ap (λ (k : Kernel). with_arrivals k (arrived t k.arrivals)) (o.kernel ∙ ap (λ (k : Kernel). with_object k t object) p.kernel))
          ∙ (unfold arrive with_arrivals with_object with_place in refl);
    }
