-- The front of any queue of the kernel, as the searches find it, and who would head it. Assumes nothing.
use Rattle.std.specs.Prelude.{None, Option, Some}
use Prim.Native.Nat.{ℕ, ◌≤◌}
use native.Mathlib.Omega.{arith}
use mathlib.Core.Path.{◌≡◌, ◌∙◌, refl, sym, ap, ap₂, subst}
use mathlib.Core.Logic.{◌≢◌, ◌⊎◌, inl, inr}
use mathlib.Core.Bool.{Bool, true, false, cond}
use mathlib.Core.List.{List, [], ◌∷◌, ◌++◌}
use lib.Dec.{eqb, ltb}
use borrow.Author.Tests.{eq-eqb, ne_eqb}
use Rattle.model.specs.Sizes.{tasks}
use Rattle.model.specs.Lists.{◌!◌, select, member, head_of}
use Rattle.model.specs.Number.{word_number, maybe_task, TaskNumber}
use Rattle.model.specs.Facts.{Queue}
use Rattle.model.specs.Queue.{by_priority, sorted, ordered, order, front, would_head}
use Rattle.model.specs.Kernel.{Kernel, stands_in, facts}
use Rattle.model.specs.World.{queue_front, heads_queue}
use Rattle.model.proofs.ListLaws.{or_left, member-middle}
use Rattle.model.proofs.NumberLaws.{word-in-range, task-is, task-is-none}
use Rattle.queue.proofs.ArrivalLaws.{member-select}
use Rattle.queue.proofs.First.{sorted-first, first-unique, last-first}
use Rattle.queue.proofs.Standing.{stands-task}

module _ (k : Kernel) (q : Queue) where
  -- the queue's tasks as they arrived
  abbrev pub standing : List ℕ
  standing = select (stands_in k q) k.arrivals

  pub front-urgent : by_priority (facts k) q ≡ true → head_of (sorted k.tasks.current standing) ≡ queue_front k q
  unfolding queue_front front order ordered facts
  front-urgent e = sym (rw e)

  pub front-oldest : by_priority (facts k) q ≡ false → head_of standing ≡ queue_front k q
  unfolding queue_front front order ordered facts
  front-oldest e = sym (rw e)

  task-of : (u : ℕ) → member u standing ≡ true → (1 ≤ u) × (u ≤ tasks)
  task-of u m = stands-task k q u (member-select (stands_in k q) u k.arrivals m).0

  -- nobody, or one who stands there
  abbrev Someone : ℕ → Type 0
  Someone u = ((standing ≡ []) × (u ≡ 0)) ⊎ (member u standing ≡ true)

  oldest-someone : (ts : List ℕ) → standing ≡ ts → Someone (head_of ts)
  oldest-someone [] e = inl (e, refl)
  oldest-someone (t ∷ ts) e = inr (rw e (or_left (eqb t t) _ (eq-eqb t t refl)))

  urgent-someone : (ts : List ℕ) → standing ≡ ts → Someone (head_of (sorted k.tasks.current ts))
  urgent-someone [] e = inl (e, refl)
  urgent-someone (t ∷ ts) e =
      let f = sorted-first k.tasks.current t ts in
      inr (rw e (subst (λ (l : List ℕ). member (head_of (sorted k.tasks.current (t ∷ ts))) l ≡ true) (sym f.split) (member-middle _ f.before f.behind)))

  front-someone : Someone (queue_front k q)
  front-someone = go (by_priority (facts k) q) refl
    where
      go : (b : Bool) → by_priority (facts k) q ≡ b → Someone (queue_front k q)
      go true e = subst Someone (front-urgent e) (urgent-someone standing refl)
      go false e = subst Someone (front-oldest e) (oldest-someone standing refl)

  pub front-range : queue_front k q ≤ tasks
  front-range = go front-someone
    where
      go : Someone (queue_front k q) → queue_front k q ≤ tasks
      go (inl h) = let e = h.1 in omega arith
      go (inr m) = (task-of (queue_front k q) m).1

  -- the front is a task that stands in the queue, or 0 where nobody does
  pub front-stands : queue_front k q ≢ 0 → stands_in k q (queue_front k q) ≡ true
  front-stands h = go front-someone
    where
      go : Someone (queue_front k q) → stands_in k q (queue_front k q) ≡ true
      go (inl n) = absurd (h n.1)
      go (inr m) = (member-select (stands_in k q) (queue_front k q) k.arrivals m).0

  -- what is found by its word is the front
  pub front-found : (r : ℕ) → r ≡ queue_front k q → maybe_task (word_number r tasks) ≡ maybe_task (queue_front k q)
  front-found r e = rw e (ap maybe_task (word-in-range tasks (queue_front k q) front-range))

  -- ---- who would head the queue

  -- the first of a queue in which a task comes last, by the tasks who stand there already
  abbrev head_with : ℕ → List ℕ → ℕ
  head_with t ts = head_of (ordered (facts k) k.tasks.current q (ts ++ t ∷ []))

  heads-is : (t : ℕ) → heads_queue k q t ≡ eqb (head_with t standing) t
  unfolding heads_queue would_head facts
  heads-is t = refl

  alone : (t : ℕ) → head_with t [] ≡ t
  unfolding ordered
  alone t = go (by_priority (facts k) q)
    where
      go : (b : Bool) → head_of (cond b (t ∷ []) (t ∷ [])) ≡ t
      go true = refl
      go false = refl

  with-urgent : (t s : ℕ) (ss : List ℕ) → by_priority (facts k) q ≡ true
      → head_with t (s ∷ ss) ≡ cond (ltb (k.tasks.current ! t) (k.tasks.current ! head_of (sorted k.tasks.current (s ∷ ss)))) t (head_of (sorted k.tasks.current (s ∷ ss)))
  unfolding ordered
  with-urgent t s ss e =
      rw e
      (first-unique k.tasks.current (sorted-first k.tasks.current s (ss ++ t ∷ []))
      (last-first k.tasks.current (head_of (sorted k.tasks.current (s ∷ ss))) t (sorted-first k.tasks.current s ss)))

  with-oldest : (t s : ℕ) (ss : List ℕ) → by_priority (facts k) q ≡ false → head_with t (s ∷ ss) ≡ s
  unfolding ordered
  with-oldest t s ss e = rw e

  -- where somebody stands, the front stays the first, or the task passes it
  urgent-with : (t : ℕ) → by_priority (facts k) q ≡ true → queue_front k q ≢ 0
      → head_with t standing ≡ cond (ltb (k.tasks.current ! t) (k.tasks.current ! queue_front k q)) t (queue_front k q)
  urgent-with t e h = go standing refl
    where
      go : (ts : List ℕ) → standing ≡ ts → head_with t standing ≡ cond (ltb (k.tasks.current ! t) (k.tasks.current ! queue_front k q)) t (queue_front k q)
      go [] f = absurd (h (sym (front-urgent e) ∙ ap (λ (l : List ℕ). head_of (sorted k.tasks.current l)) f))
      go (s ∷ ss) f =
          ap (head_with t) f ∙ with-urgent t s ss e
          ∙ ap (λ (n : ℕ). cond (ltb (k.tasks.current ! t) (k.tasks.current ! n)) t n)
          (ap (λ (l : List ℕ). head_of (sorted k.tasks.current l)) (sym f) ∙ front-urgent e)

  oldest-with : (t : ℕ) → by_priority (facts k) q ≡ false → queue_front k q ≢ 0 → head_with t standing ≡ queue_front k q
  oldest-with t e h = go standing refl
    where
      go : (ts : List ℕ) → standing ≡ ts → head_with t standing ≡ queue_front k q
      go [] f = absurd (h (sym (front-oldest e) ∙ ap head_of f))
      go (s ∷ ss) f = ap (head_with t) f ∙ with-oldest t s ss e ∙ ap head_of (sym f) ∙ front-oldest e

  pub heads-empty : (t : ℕ) → queue_front k q ≡ 0 → true ≡ heads_queue k q t
  heads-empty t e = sym (heads-is t ∙ go front-someone)
    where
      go : Someone (queue_front k q) → eqb (head_with t standing) t ≡ true
      go (inl h) = eq-eqb (head_with t standing) t (ap (head_with t) h.0 ∙ alone t)
      go (inr m) = let h = (task-of (queue_front k q) m).0 in absurd (omega arith)

  pub heads-itself : (t : ℕ) → queue_front k q ≢ 0 → queue_front k q ≡ t → true ≡ heads_queue k q t
  heads-itself t h e = sym (heads-is t ∙ go (by_priority (facts k) q) refl)
    where
      same : (b : Bool) → cond b t (queue_front k q) ≡ t
      same true = refl
      same false = e

      go : (b : Bool) → by_priority (facts k) q ≡ b → eqb (head_with t standing) t ≡ true
      go true p = eq-eqb (head_with t standing) t (urgent-with t p h ∙ same (ltb (k.tasks.current ! t) (k.tasks.current ! queue_front k q)))
      go false p = eq-eqb (head_with t standing) t (oldest-with t p h ∙ e)

  pub heads-by-priority : (t : ℕ) → queue_front k q ≢ 0 → queue_front k q ≢ t → by_priority (facts k) q ≡ true
      → ltb (k.tasks.current ! t) (k.tasks.current ! queue_front k q) ≡ heads_queue k q t
  heads-by-priority t h d e = sym (heads-is t ∙ ap (λ (n : ℕ). eqb n t) (urgent-with t e h) ∙ go (ltb (k.tasks.current ! t) (k.tasks.current ! queue_front k q)))
    where
      go : (b : Bool) → eqb (cond b t (queue_front k q)) t ≡ b
      go true = eq-eqb t t refl
      go false = ne_eqb (queue_front k q) t d

  pub heads-by-arrival : (t : ℕ) → queue_front k q ≢ 0 → queue_front k q ≢ t → by_priority (facts k) q ≡ false → false ≡ heads_queue k q t
  heads-by-arrival t h d e = sym (heads-is t ∙ ap (λ (n : ℕ). eqb n t) (oldest-with t e h) ∙ ne_eqb (queue_front k q) t d)

-- ---- the same by what the code has found: the first, its number a and the task's number b, and whether the order is by priority

module _ (k : Kernel) (q : Queue) (t : ℕ) {f : Option TaskNumber} (is : f ≡ maybe_task (queue_front k q)) where
  pub head-nobody : f ≡ None → true ≡ heads_queue k q t
  head-nobody e = heads-empty k q t (task-is-none _ (sym is ∙ e))

  module _ {u : TaskNumber} {a b : ℕ} (e : f ≡ Some u) (x : a ≡ u.0) (y : b ≡ t) where
    names : (u.0 ≡ queue_front k q) × (queue_front k q ≢ 0)
    names = task-is _ _ (sym is ∙ e)

    pub head-itself : a ≡ b → true ≡ heads_queue k q t
    head-itself z = heads-itself k q t names.1 (sym names.0 ∙ sym x ∙ z ∙ y)

    module _ (d : a ≡ b → ⊥) {p : Bool} (by : p ≡ by_priority (facts k) q) where
      differs : queue_front k q ≢ t
      differs z = d (x ∙ names.0 ∙ z ∙ sym y)

      pub head-urgent : {m n : ℕ} → p ≡ true → m ≡ k.tasks.current ! t → n ≡ k.tasks.current ! u.0 → ltb m n ≡ heads_queue k q t
      head-urgent z i j = ap₂ ltb i (j ∙ ap (λ (v : ℕ). k.tasks.current ! v) names.0) ∙ heads-by-priority k q t names.1 differs (sym by ∙ z)

      pub head-arrived : p ≡ false → false ≡ heads_queue k q t
      head-arrived z = heads-by-arrival k q t names.1 differs (sym by ∙ z)
