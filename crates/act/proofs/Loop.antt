-- Acts in a loop: a loop's invariant is what is left to do, so that whatever does the rest from here does the whole from the start. Assumes nothing.
use Prim.Native.Nat.{ℕ, ◌+◌, ◌-◌, ◌<◌, ◌≤◌, suc}
use native.Mathlib.Numerals.{add-one}
use native.Mathlib.Omega.{arith}
use mathlib.Core.Path.{◌≡◌, ◌∙◌, refl, sym, ap, subst}
use mathlib.Core.List.{List, [], ◌∷◌, foldl}
use lib.ListN.{length, drop}
use lib.Seq.{drop-cons}
use Rattle.model.specs.Lists.{◌!◌, count_from}
use Rattle.model.specs.World.{World, Ended}
use Rattle.model.specs.Lent.{Areas}
use Rattle.model.specs.Words.{word_count}
use Rattle.act.specs.Held.{areas, Does, DoesInLog}
use Rattle.act.proofs.Doing.{world, does}

pub record Left (whole rest : World → World) (a : Areas) (at : ℕ) (b : Areas) (next : ℕ) : Type 0 where
  pub then : (c : Areas) (end : ℕ) → Does rest b next c end → Does whole a at c end

-- the same for a loop to which the store is not lent, with the lengths of what is lent
pub record LeftInLog (whole rest : World → World) (s o log : List ℕ) (at : ℕ) (s' o' log' : List ℕ) (next : ℕ) : Type 0 where
  pub left : (store : List ℕ) → Left whole rest (areas s store o log) at (areas s' store o' log') next
  pub words : length s' ≡ word_count
  pub outbox-size : length o' ≡ length o
  pub log-size : length log' ≡ length log

-- nothing is done yet, or no more
pub left-all : {act : World → World} {a : Areas} {at : ℕ} → Left act act a at a at
left-all = record { then = λ c end d. d }

pub stays : {act : World → World} (a : Areas) (at : ℕ) → ((es : List Ended) → act (world a es) ≡ world a es) → Does act a at a at
stays a at e = does λ l es h. rw (e es) h

-- one act after the other
pub then-does : {first second : World → World} {a b c : Areas} {at mid next : ℕ} → Does first a at b mid → Does second b mid c next
    → Does (λ w. second (first w)) a at c next
then-does f g = record { holds = λ l w h. g.holds l _ (f.holds l w h) }

pub in-log-all : {act : World → World} {s o log : List ℕ} {at : ℕ} → length s ≡ word_count → LeftInLog act act s o log at s o log at
in-log-all h = record { left = λ store. left-all; words = h; outbox-size = refl; log-size = refl }

-- ---- acts for each number of a list, one after the other

abbrev pub over : (ℕ → World → World) → List ℕ → World → World
over f ts w = foldl (λ v t. f t v) w ts

module _ {whole : World → World} (f : ℕ → World → World) {us : List ℕ} where
  module _ {t : ℕ} {ts : List ℕ} (e : us ≡ t ∷ ts) where
    pub left-more : {a b c : Areas} {at mid next : ℕ} → Left whole (over f us) a at b mid → Does (f t) b mid c next
        → Left whole (over f ts) a at c next
    left-more {a} {b} {c} {at} {mid} l d =
        record { then = λ z end g. (subst (λ (vs : List ℕ). Left whole (over f vs) a at b mid) e l).then z end (then-does d g) }

    pub in-log-more : {s o log s1 o1 log1 : List ℕ} {at mid : ℕ} → LeftInLog whole (over f us) s o log at s1 o1 log1 mid
        → {s' o' log' : List ℕ} {next : ℕ} → length s' ≡ length s1 → length o' ≡ length o1 → length log' ≡ length log1
        → DoesInLog (f t) s1 o1 log1 mid s' o' log' next → LeftInLog whole (over f ts) s o log at s' o' log' next
    in-log-more l x y z d =
        record {
          left = λ store. left-more (l.left store) (d.does store);
          words = x ∙ l.words;
          outbox-size = y ∙ l.outbox-size;
          log-size = z ∙ l.log-size;
        }

  module _ (e : us ≡ []) where
    pub left-none : {a b : Areas} {at next : ℕ} → Left whole (over f us) a at b next → Does whole a at b next
    left-none {b = b} {next = next} l = l.then b next (rw e (stays b next (λ es. refl)))

    pub in-log-none : {s o log s1 o1 log1 : List ℕ} {at mid : ℕ} → LeftInLog whole (over f us) s o log at s1 o1 log1 mid
        → DoesInLog whole s o log at s1 o1 log1 mid
    in-log-none l = record { does = λ store. left-none (l.left store) }

-- a loop over the numbers of a kind, and over the places of a list
pub counted : (last i : ℕ) → i < last → count_from (i + 1) (last - i) ≡ (i + 1) ∷ count_from (i + 1 + 1) (last - (i + 1))
counted last i h =
    let k : last - i ≡ suc (last - (i + 1)) = omega arith in
    ap (count_from (i + 1)) k ∙ ap (λ (n : ℕ). (i + 1) ∷ count_from n (last - (i + 1))) (sym (add-one (i + 1)))

pub counted-all : (last i : ℕ) → last ≤ i → count_from (i + 1) (last - i) ≡ []
counted-all last i h = let k : last - i ≡ 0 = omega arith in ap (count_from (i + 1)) k

pub dropped : (ts : List ℕ) (i : ℕ) → i < length ts → drop i ts ≡ ts ! i ∷ drop (i + 1) ts
dropped ts i h = drop-cons ts i 0 h ∙ ap (λ (n : ℕ). ts ! i ∷ drop n ts) (sym (add-one i))
