-- The search for the next to run, priority by priority and place by place: what is left decides what is found. Assumes nothing.
use Rattle.std.specs.Prelude.{None}
use Prim.Native.Nat.{ℕ, zero, suc, ◌+◌, ◌-◌, ◌≤◌, ◌<◌}
use native.Mathlib.Numerals.{add-one}
use native.Mathlib.Decide.{dec_le}
use native.Mathlib.Omega.{arith}
use mathlib.Core.Path.{◌≡◌, ◌∙◌, refl, sym, ap, ap₂, subst, fun_ext}
use mathlib.Core.Logic.{◌≢◌, inl, inr}
use mathlib.Core.Bool.{Bool, true, false, ◌&&◌, false≢true, and-eq-true_iff}
use mathlib.Core.List.{List, [], ◌∷◌, map}
use lib.ListN.{length, drop, drop_of_length-le}
use lib.Seq.{drop-cons}
use lib.Dec.{eqb}
use lib.Count.{count_trailing_zeros}
use borrow.Author.Tests.{eq-eqb}
use Rattle.model.specs.Sizes.{tasks, priorities}
use Rattle.model.specs.Lists.{◌!◌, count_from, up_to, keep, select, first_where, member}
use Rattle.model.specs.Number.{word_number, maybe_task}
use Rattle.model.specs.Facts.{ready, ready_queue}
use Rattle.model.specs.Queue.{search_ready, next_to_run, ready_at, ready_bitmap}
use Rattle.model.specs.Kernel.{Kernel, numbered, stands_in, facts}
use Rattle.model.specs.World.{running}
use Rattle.model.specs.Valid.{Bitmap}
use Rattle.model.specs.Bits.{word_of}
use Rattle.model.proofs.ListLaws.{mapped_at, member-count_from, member-middle, some-passes}
use Rattle.model.proofs.ByCase.{first-here, first-later}
use Rattle.model.proofs.NumberLaws.{numbered-at, word-in-range, task-zero}
use Rattle.model.specs.Words.{word_count, kernel}
use Rattle.ready.proofs.BitLaws.{bits_below}
use Rattle.queue.proofs.NextToRun.{Found, SearchOutcome, first_where-finds, search-none, search-hit}
use Rattle.queue.proofs.ArrivalLaws.{member-select}
use Rattle.queue.proofs.Standing.{stands-task, stands-place, and_left}
use Rattle.state.proofs.WordLaws.{arrivals-long}

-- a number is a ready task's, at a priority
abbrev pub ready_task_at : Kernel → ℕ → ℕ → Bool
ready_task_at k p u = stands_in k ready_queue u && eqb (numbered k.tasks.current ! u) p

-- ---- the first that passes

where-select : (f g : ℕ → Bool) (xs : List ℕ) → first_where f (select g xs) ≡ first_where (λ u. g u && f u) xs
where-select f g [] = refl
where-select f g (x ∷ xs) = go (g x) (f x) refl refl (where-select f g xs)
  where
    go : (b d : Bool) → g x ≡ b → f x ≡ d → first_where f (select g xs) ≡ first_where (λ u. g u && f u) xs
        → first_where f (select g (x ∷ xs)) ≡ first_where (λ u. g u && f u) (x ∷ xs)
    go true true e h rest =
        ap (λ (c : Bool). first_where f (keep c x (select g xs))) e ∙ first-here f x (select g xs) h
        ∙ sym (first-here (λ u. g u && f u) x xs (ap (λ (c : Bool). c && f x) e ∙ h))
    go true false e h rest =
        ap (λ (c : Bool). first_where f (keep c x (select g xs))) e ∙ first-later f x (select g xs) h ∙ rest
        ∙ sym (first-later (λ u. g u && f u) x xs (ap (λ (c : Bool). c && f x) e ∙ h))
    go false d e h rest =
        ap (λ (c : Bool). first_where f (keep c x (select g xs))) e ∙ rest
        ∙ sym (first-later (λ u. g u && f u) x xs (ap (λ (c : Bool). c && f x) e))

module _ (k : Kernel) where
  abbrev ts : List ℕ
  ts = select (stands_in k ready_queue) k.arrivals

  same_test : (p u : ℕ) → stands_in k ready_queue u && eqb (k.tasks.current ! u) p ≡ ready_task_at k p u
  same_test p u = go (stands_in k ready_queue u) refl
    where
      go : (b : Bool) → stands_in k ready_queue u ≡ b → b && eqb (k.tasks.current ! u) p ≡ b && eqb (numbered k.tasks.current ! u) p
      go true e = ap (λ (n : ℕ). eqb n p) (sym (numbered-at k.tasks.current u (stands-task k ready_queue u e).0))
      go false e = refl

  -- one priority's search in the queue is one over all places
  at-priority : (p : ℕ) → first_where (λ u. eqb (k.tasks.current ! u) p) ts ≡ first_where (ready_task_at k p) k.arrivals
  at-priority p =
      where-select (λ u. eqb (k.tasks.current ! u) p) (stands_in k ready_queue) k.arrivals
      ∙ ap (λ (f : ℕ → Bool). first_where f k.arrivals) (fun_ext (same_test p))

-- ---- priority by priority

pub record Searching (w : List ℕ) (p : ℕ) : Type 0 where
  pub start : length w ≡ word_count
  pub left : running (kernel w) ≡ search_ready (kernel w).tasks.current (ts (kernel w)) (count_from p (suc priorities - p))

-- the priorities before one are passed over where nobody is ready at any of them
module _ (k : Kernel) where
  skipped : (m : ℕ) → ((q : ℕ) → 1 ≤ q → q ≤ m → q ≤ priorities → first_where (λ u. eqb (k.tasks.current ! u) q) (ts k) ≡ 0)
      → running k ≡ search_ready k.tasks.current (ts k) (count_from (m + 1) (suc priorities - (m + 1)))
  unfolding running next_to_run facts
  skipped zero none = refl
  skipped (suc m) none = skipped m (λ q low high. none q low (omega arith)) ∙ go (dec_le (suc m) priorities)
    where
      go : Dec (suc m ≤ priorities) → search_ready k.tasks.current (ts k) (count_from (m + 1) (suc priorities - (m + 1)))
          ≡ search_ready k.tasks.current (ts k) (count_from (suc m + 1) (suc priorities - (suc m + 1)))
      go (yes h) =
          let one : suc priorities - (m + 1) ≡ suc (suc priorities - (suc m + 1)) = omega arith in
          ap (λ (n : ℕ). search_ready k.tasks.current (ts k) (count_from (m + 1) n)) one
          ∙ search-none k.tasks.current (ts k) (m + 1) (count_from (suc (m + 1)) (suc priorities - (suc m + 1)))
          (ap (λ (q : ℕ). first_where (λ u. eqb (k.tasks.current ! u) q) (ts k)) (omega arith) ∙ none (suc m) (omega arith) (omega arith) h)
          ∙ ap (λ (a : ℕ). search_ready k.tasks.current (ts k) (count_from a (suc priorities - (suc m + 1)))) (omega arith)
      go (no h) =
          let one : suc priorities - (m + 1) ≡ 0 = omega arith in
          let two : suc priorities - (suc m + 1) ≡ 0 = omega arith in
          ap (λ (n : ℕ). search_ready k.tasks.current (ts k) (count_from (m + 1) n)) one
          ∙ sym (ap (λ (n : ℕ). search_ready k.tasks.current (ts k) (count_from (suc m + 1) n)) two)

  -- nobody is, at a priority before the first bit
  unset : (q : ℕ) → Bitmap k → 1 ≤ q → q ≤ count_trailing_zeros 32 (k.bitmap ! 0) → q ≤ priorities → ready_at (facts k) k.tasks.current q ≡ false
  unfolding Bitmap ready_bitmap
  unset q right low below inside =
      ap (ready_at (facts k) k.tasks.current) (omega arith) ∙ sym (mapped_at (ready_at (facts k) k.tasks.current) 1 priorities (q - 1) false (omega arith))
      ∙ bits_below (map (ready_at (facts k) k.tasks.current) (up_to priorities)) 32 (q - 1)
      (let e : count_trailing_zeros 32 (k.bitmap ! 0) ≡ count_trailing_zeros 32 (word_of (map (ready_at (facts k) k.tasks.current) (up_to priorities))) = ap (λ (xs : List ℕ). count_trailing_zeros 32 (xs ! 0)) right in omega arith)

  nobody-ready : (q : ℕ) → ready_at (facts k) k.tasks.current q ≡ false → first_where (λ u. eqb (k.tasks.current ! u) q) (ts k) ≡ 0
  unfolding ready_at facts
  nobody-ready q none = go (first_where-finds (λ u. eqb (k.tasks.current ! u) q) (ts k))
    where
      found : ℕ
      found = first_where (λ u. eqb (k.tasks.current ! u) q) (ts k)

      never : Found (λ u. eqb (k.tasks.current ! u) q) (ts k) found → ⊥
      never f =
          let m = subst (λ (l : List ℕ). member found l ≡ true) (sym f.split) (member-middle found f.before f.behind) in
          let stands = (member-select (stands_in k ready_queue) found k.arrivals m).0 in
          let r = stands-task k ready_queue found stands in
          let place : eqb (numbered k.tasks.place ! found) ready ≡ true = eq-eqb _ ready (numbered-at k.tasks.place found r.0 ∙ stands-place k ready_queue found stands) in
          false≢true
          (sym none ∙ some-passes (λ t. eqb (numbered k.tasks.place ! t) ready && eqb (k.tasks.current ! t) q) found (up_to tasks)
          ((and-eq-true_iff _ _).1 (place, f.passes)) (member-count_from 1 tasks found r.0 (omega (arith, r.1))))

      go : SearchOutcome (λ u. eqb (k.tasks.current ! u) q) (ts k) found → found ≡ 0
      go (inl o) = o.1
      go (inr f) = absurd (never f)

pub search-start : (w : List ℕ) → length w ≡ word_count → Bitmap (kernel w) → (word : ℕ) → word ≡ (kernel w).bitmap ! 0 → Searching w (count_trailing_zeros 32 word + 1)
search-start w h right word e =
    record {
      start = h;
      left =
          skipped (kernel w) (count_trailing_zeros 32 word)
          (λ q low high inside. nobody-ready (kernel w) q (unset (kernel w) q right low (omega (arith, ap (count_trailing_zeros 32) e)) inside));
    }

pub search-done : (w : List ℕ) (p : ℕ) → priorities < p → Searching w p → None ≡ maybe_task (running (kernel w))
search-done w p h s =
    let z : suc priorities - p ≡ 0 = omega arith in
    sym (task-zero (running (kernel w)) (s.left ∙ ap (λ (n : ℕ). search_ready (kernel w).tasks.current (ts (kernel w)) (count_from p n)) z))

-- ---- and place by place

pub record Looking (w : List ℕ) (p i : ℕ) : Type 0 where
  pub searching : Searching w p
  pub inside : p ≤ priorities
  pub rest : first_where (ready_task_at (kernel w) p) (kernel w).arrivals ≡ first_where (ready_task_at (kernel w) p) (drop i (kernel w).arrivals)
  pub few : i ≤ tasks

pub look-start : (w : List ℕ) (p : ℕ) → p ≤ priorities → Searching w p → Looking w p 0
look-start w p h s = record { searching = s; inside = h; rest = refl; few = omega arith }

module _ (w : List ℕ) (p i : ℕ) (l : Looking w p i) where
  pub here : i < tasks → drop i (kernel w).arrivals ≡ (kernel w).arrivals ! i ∷ drop (i + 1) (kernel w).arrivals
  here h = drop-cons (kernel w).arrivals i 0 (let n = arrivals-long w l.searching.start in omega arith) ∙ ap (λ (n : ℕ). (kernel w).arrivals ! i ∷ drop n (kernel w).arrivals) (sym (add-one i))

  pub look-more : i < tasks → (u : ℕ) → u ≡ (kernel w).arrivals ! i → ready_task_at (kernel w) p u ≡ false → Looking w p (i + 1)
  look-more h u e f =
      record {
        searching = l.searching;
        inside = l.inside;
        rest =
            l.rest ∙ ap (first_where (ready_task_at (kernel w) p)) (here h)
            ∙ first-later (ready_task_at (kernel w) p) ((kernel w).arrivals ! i) (drop (i + 1) (kernel w).arrivals) (ap (ready_task_at (kernel w) p) (sym e) ∙ f);
        few = omega arith;
      }

  -- the priorities from p on, p first
  row : count_from p (suc priorities - p) ≡ p ∷ count_from (suc p) (priorities - p)
  row = let h = l.inside in let e : suc priorities - p ≡ suc (priorities - p) = omega arith in ap (count_from p) e

  pub look-done : tasks ≤ i → Searching w (p + 1)
  look-done h =
      record {
        start = l.searching.start;
        left =
            l.searching.left ∙ ap (search_ready (kernel w).tasks.current (ts (kernel w))) row
            ∙ search-none (kernel w).tasks.current (ts (kernel w)) p (count_from (suc p) (priorities - p)) nobody
            ∙ ap₂ (λ (a n : ℕ). search_ready (kernel w).tasks.current (ts (kernel w)) (count_from a n)) (sym (add-one p)) fewer;
      }
    where
      fewer : priorities - p ≡ suc priorities - (p + 1)
      fewer = omega arith

      nobody : first_where (λ u. eqb ((kernel w).tasks.current ! u) p) (ts (kernel w)) ≡ 0
      nobody =
          at-priority (kernel w) p ∙ l.rest
          ∙ ap (first_where (ready_task_at (kernel w) p)) (drop_of_length-le (kernel w).arrivals {i = i} (let n = arrivals-long w l.searching.start in omega arith))

  pub look_hit : i < tasks → (u : ℕ) → u ≡ (kernel w).arrivals ! i → ready_task_at (kernel w) p u ≡ true → maybe_task (word_number u tasks) ≡ maybe_task (running (kernel w))
  look_hit h u e f = ap maybe_task (word-in-range tasks u task.1 ∙ sym runs)
    where
      task : (1 ≤ u) × (u ≤ tasks)
      task = stands-task (kernel w) ready_queue u (and_left _ _ f)

      found : first_where (λ v. eqb ((kernel w).tasks.current ! v) p) (ts (kernel w)) ≡ u
      found =
          at-priority (kernel w) p ∙ l.rest ∙ ap (first_where (ready_task_at (kernel w) p)) (here h)
          ∙ first-here (ready_task_at (kernel w) p) ((kernel w).arrivals ! i) (drop (i + 1) (kernel w).arrivals) (ap (ready_task_at (kernel w) p) (sym e) ∙ f) ∙ sym e

      there : u ≢ 0
      there = let a = task.0 in omega arith

      runs : running (kernel w) ≡ u
      runs =
          l.searching.left ∙ ap (search_ready (kernel w).tasks.current (ts (kernel w))) row
          ∙ search-hit (kernel w).tasks.current (ts (kernel w)) p (count_from (suc p) (priorities - p)) u there found
