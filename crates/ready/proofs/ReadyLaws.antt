-- Laws of the bits of priorities: one bit worked out afresh puts the word right where no other priority has changed, and one pass over the
-- tasks gives the whole word. Assumes nothing.
use Rattle.std.specs.Prelude.{None, Option, Some}
use Rattle.model.proofs.Terms.{ℕ, zero, suc, ◌+◌, ◌*◌, ◌-◌, ◌^◌, ◌≤◌, ◌<◌, ℕ_discrete, arith, ◌≡◌, ◌∙◌, refl, sym, ap, ap₂, fun_ext, ◌≢◌, Bool, true, false, false≢true, ◌&&◌, ◌||◌, cond, List, [], ◌∷◌, map, foldl, length, set, eqb, leb, eq-eqb, ne_eqb, le-leb, lt-leb, leb-true, leb-false, tasks, priorities, ◌!◌, count_from, up_to, any, ready, Queue, Facts, ready_at, ready_bitmap, with_priority, kernel, word_count, Kernel, numbered, with_tasks, with_arrivals, with_place, with_object, arrived, stands_in, facts, with_bitmap, with_fresh_bit, with_fresh_bits, arrive}
use Prim.Native.Nat.{◌%◌}
use native.Mathlib.Nat.{one-mul}
use native.Mathlib.Numerals.{sub-one}
use lib.Bits.{bit_or}
use lib.Pow.{shl_exact}
use mathlib.Core.Bool.{and-eq-true_iff, and-false, or-false, or_assoc}
use Rattle.model.specs.Bits.{word_of, with_bit}
use Rattle.model.specs.Valid.{Bitmap}
use Rattle.model.proofs.ListLaws.{map-agree, some-passes, member-count_from, or_left, or_right, by-test}
use Rattle.model.proofs.Rest.{numbers, rest_all, rest-here, rest-done}
use Rattle.model.proofs.NumberLaws.{Names, NamesNone, names-one, numbered-at, numbered-none, numbered-other, word-in-range, task-zero, task-is, task-is-none}
use Rattle.model.specs.Number.{word_number, maybe_task, TaskNumber}
use Rattle.state.specs.Words.{Represents}
use Rattle.state.proofs.WordLaws.{places-long}
use Rattle.ready.specs.Tasks.{is_ready, ready_task, is_ready_at, with_task}
use Rattle.ready.proofs.BitLaws.{bit-set, bit-cleared, bit_below, bit_at}

-- ---- one priority's bit

module _ (f g : ℕ → Bool) (b : Bool) where
  set-mapped : (a n i : ℕ) → i < n → g (a + i) ≡ b → ((x : ℕ) → a ≤ x → x ≢ a + i → f x ≡ g x) → set (map f (count_from a n)) i b ≡ map g (count_from a n)
  set-mapped a zero i h e same = absurd (omega arith)
  set-mapped a (suc n) zero h e same =
      ap₂ (λ (x : Bool) (xs : List Bool). x ∷ xs) (sym e ∙ ap g (omega arith))
      (map-agree f g (suc a) n (λ x low high. same x (omega arith) (λ (z : x ≡ a + 0). omega arith)))
  set-mapped a (suc n) (suc i) h e same =
      ap₂ (λ (x : Bool) (xs : List Bool). x ∷ xs) (same a (omega arith) (λ (z : a ≡ a + suc i). omega arith))
      (set-mapped (suc a) n i (omega arith) (ap g (omega arith) ∙ e) (λ x low z. same x (omega arith) (λ (y : x ≡ a + suc i). z (y ∙ omega arith))))

  -- the word of bits that differ at one priority only
  one-differs : (p : ℕ) → g p ≡ b → ((q : ℕ) → q ≢ p → f q ≡ g q)
      → with_priority (word_of (map f (up_to priorities))) p b ≡ word_of (map g (up_to priorities))
  unfolding with_priority
  one-differs zero e same = ap word_of (map-agree f g 1 priorities (λ x low high. same x (λ (z : x ≡ 0). omega arith)))
  one-differs (suc i) e same =
      rw (le-leb 1 (suc i) (omega arith)) (by-test (λ (w : ℕ). w ≡ word_of (map g (up_to priorities))) (leb (suc i) priorities) inside outside)
    where
      inside : leb (suc i) priorities ≡ true → with_bit (word_of (map f (up_to priorities))) i b ≡ word_of (map g (up_to priorities))
      inside h =
          let l : suc i ≤ priorities = leb-true _ _ h in
          bit_at (map f (up_to priorities)) i b (omega arith) ∙ ap word_of (set-mapped 1 priorities i (omega arith) (ap g (omega arith) ∙ e) (λ x low z. same x (λ (y : x ≡ suc i). z (y ∙ omega arith))))

      outside : leb (suc i) priorities ≡ false → word_of (map f (up_to priorities)) ≡ word_of (map g (up_to priorities))
      outside h =
          let l : priorities < suc i = leb-false _ _ h in
          ap word_of (map-agree f g 1 priorities (λ x low high. same x (λ (z : x ≡ suc i). omega arith)))

-- a number that is no priority has no bit, and a priority's is the bit before its number
module _ (w p : ℕ) (b : Bool) where
  pub priority-none : p ≡ 0 → w ≡ with_priority w p b
  unfolding with_priority
  priority-none e = rw e

  pub priority-beyond : priorities < p → w ≡ with_priority w p b
  unfolding with_priority
  priority-beyond h = rw (le-leb 1 p (omega arith), lt-leb p priorities h)

  priority-bit : p ≢ 0 → p ≤ priorities → with_priority w p b ≡ with_bit w (p - 1) b
  unfolding with_priority
  priority-bit n h = rw (le-leb 1 p (omega arith), le-leb p priorities h) (ap (λ (i : ℕ). with_bit w i b) (sym (sub-one p)))

-- as a machine sets it and takes it away
module _ (w p : ℕ) (n : p ≢ 0) (h : p ≤ priorities) where
  abbrev shifted : ℕ
  shifted = 1 * 2 ^ (p - 1) % 2 ^ 32

  exact : shifted ≡ 2 ^ (p - 1)
  exact = shl_exact 1 (p - 1) 32 (omega arith) (omega arith) ∙ one-mul (2 ^ (p - 1))

  set_is : bit_or w shifted ≡ with_bit w (p - 1) true
  set_is = ap (bit_or w) exact ∙ bit-set w (p - 1)

  pub priority-set : bit_or w shifted ≡ with_priority w p true
  priority-set = set_is ∙ sym (priority-bit w p true n h)

  pub priority-below : shifted ≤ bit_or w shifted
  priority-below = rw (set_is, exact) (bit_below w (p - 1))

  pub priority-cleared : bit_or w shifted - shifted ≡ with_priority w p false
  priority-cleared = ap₂ (λ (x y : ℕ). x - y) set_is exact ∙ bit-cleared w (p - 1) ∙ sym (priority-bit w p false n h)

-- Where the bits were right and only one priority's ready tasks have changed, that bit worked out afresh puts the word right.
fresh-bit-right : (k j : Kernel) (p : ℕ) → Bitmap k → j.bitmap ≡ k.bitmap
    → ((q : ℕ) → q ≢ p → ready_at (facts k) k.tasks.current q ≡ ready_at (facts j) j.tasks.current q) → Bitmap (with_fresh_bit j p)
unfolding Bitmap ready_bitmap facts stands_in
fresh-bit-right k j p right kept same =
    ap (λ (w : ℕ). w ∷ [])
    (ap (λ (w : ℕ). with_priority w p (ready_at (facts j) j.tasks.current p)) (ap (λ (xs : List ℕ). xs ! 0) (kept ∙ right))
    ∙ one-differs (ready_at (facts k) k.tasks.current) (ready_at (facts j) j.tasks.current) (ready_at (facts j) j.tasks.current p) p refl same)

pub fresh-bits-right : (k : Kernel) → Bitmap (with_fresh_bits k)
unfolding Bitmap facts stands_in
fresh-bits-right k = refl

-- ---- who is ready at a priority

any-agree : (f g : ℕ → Bool) (xs : List ℕ) → ((x : ℕ) → f x ≡ g x) → any f xs ≡ any g xs
any-agree f g xs h = ap (λ (p : ℕ → Bool). any p xs) (fun_ext h)

-- a task that stands elsewhere changes that of its own priority only
ready-elsewhere : (f g : Facts) (current : List ℕ) (t : ℕ) → ((u : ℕ) → u ≢ t → f.place ! u ≡ g.place ! u) → (q : ℕ) → q ≢ current ! t
    → ready_at f current q ≡ ready_at g current q
unfolding ready_at
ready-elsewhere f g current t same q other = any-agree _ _ (up_to tasks) agrees
  where
    at-t : (b c : Bool) → b && eqb (current ! t) q ≡ c && eqb (current ! t) q
    at-t b c = rw (ne_eqb (current ! t) q (λ z. other (sym z)), and-false b, and-false c)

    agrees : (u : ℕ) → eqb (f.place ! u) ready && eqb (current ! u) q ≡ eqb (g.place ! u) ready && eqb (current ! u) q
    agrees u = elim (ℕ_discrete u t) [
      | yes e ↦ rw e (at-t (eqb (f.place ! t) ready) (eqb (g.place ! t) ready))
      | no n ↦ ap (λ (x : ℕ). eqb x ready && eqb (current ! u) q) (same u n)
    ]

-- so an arrival keeps the bits right, whoever arrives where
module _ (k : Kernel) (t : ℕ) (q : Queue) where
  abbrev moved : Kernel
  moved = with_arrivals (with_object (with_place k t q.place) t q.object) (arrived t k.arrivals)

  others-stay : (u : ℕ) → u ≢ t → (facts k).place ! u ≡ (facts moved).place ! u
  unfolding with_arrivals with_object with_place with_tasks facts
  others-stay u n = sym (numbered-other k.tasks.place t q.place u n)

  pub arrival-bitmap : Bitmap k → Bitmap (arrive k t q)
  unfolding arrive with_arrivals with_object with_place with_tasks
  arrival-bitmap right = fresh-bit-right k moved (k.tasks.current ! t) right refl (ready-elsewhere (facts k) (facts moved) k.tasks.current t others-stay)

-- ---- a task's number, asked

-- none's number is not ready
none-ready : (k : Kernel) (n : ℕ) → length k.tasks.place ≡ suc tasks → NamesNone tasks n → is_ready k n ≡ false
unfolding is_ready facts
none-ready k n long none = ne_eqb _ ready (λ (e : numbered k.tasks.place ! n ≡ ready). omega (arith, numbered-none tasks k.tasks.place n long none))

module _ (k : Kernel) (p : ℕ) where
  -- one who is ready at the priority is enough
  pub one-ready : (n : ℕ) → length k.tasks.place ≡ suc tasks → is_ready_at k p n ≡ true → ready_at (facts k) k.tasks.current p ≡ true
  unfolding is_ready_at is_ready ready_at
  one-ready n long e = some-passes (is_ready_at k p) n (up_to tasks) e (member-count_from 1 tasks n inside.0 inside.1)
    where
      stands : is_ready k n ≡ true
      stands = ((and-eq-true_iff (is_ready k n) _).0 e).0

      inside : (1 ≤ n) × (n < 1 + tasks)
      inside = let r = names-one tasks n (λ none. false≢true (sym (none-ready k n long none) ∙ stands)) in (r.0, omega (arith, r.1))

-- ---- as the words are asked

-- the task of a number that is ready
module _ (w : List ℕ) (n : ℕ) where
  pub none_found : length w ≡ word_count → NamesNone tasks n → None ≡ maybe_task (ready_task (kernel w) n)
  unfolding ready_task
  none_found h none = rw (none-ready (kernel w) n (places-long w h) none) (sym (task-zero 0 refl))

  module _ {x : ℕ} (names : Names tasks n x) {place : ℕ} (e : place ≡ (kernel w).tasks.place ! x) where
    place_is : (facts (kernel w)).place ! n ≡ place
    unfolding facts
    place_is = numbered-at (kernel w).tasks.place n names.1 ∙ ap (λ (i : ℕ). (kernel w).tasks.place ! i) (sym names.0) ∙ sym e

    pub elsewhere-found : place ≢ ready → None ≡ maybe_task (ready_task (kernel w) n)
    unfolding ready_task is_ready
    elsewhere-found d = rw (place_is, ne_eqb place ready d) (sym (task-zero 0 refl))

    pub ready-found : place ≡ ready → maybe_task (word_number n tasks) ≡ maybe_task (ready_task (kernel w) n)
    unfolding ready_task is_ready
    ready-found r = rw (place_is, r) (ap maybe_task (word-in-range tasks n names.2))

-- and what follows from there being one or not
module _ (k : Kernel) (n : ℕ) where
  -- none is not ready
  never-none : is_ready k 0 ≡ true → ⊥
  unfolding is_ready facts
  never-none q = false≢true q

  found_none : maybe_task (ready_task k n) ≡ None → is_ready k n ≡ false
  unfolding ready_task
  found_none e = go (is_ready k n) refl (task-is-none _ e)
    where
      go : (b : Bool) → is_ready k n ≡ b → cond b n 0 ≡ 0 → b ≡ false
      go true q z = absurd (never-none (ap (is_ready k) (sym z) ∙ q))
      go false q z = refl

  found-one : (x : TaskNumber) → maybe_task (ready_task k n) ≡ Some x → (is_ready k n ≡ true) × (x.0 ≡ n)
  unfolding ready_task
  found-one x e = let t = task-is _ x e in go (is_ready k n) refl t.0 t.1
    where
      go : (b : Bool) → is_ready k n ≡ b → x.0 ≡ cond b n 0 → cond b n 0 ≢ 0 → (b ≡ true) × (x.0 ≡ n)
      go true q f d = (refl, f)
      go false q f d = absurd (d refl)

  module _ {found : Option TaskNumber} (is : found ≡ maybe_task (ready_task k n)) where
    pub not-ready-at : (p : ℕ) → found ≡ None → false ≡ is_ready_at k p n
    unfolding is_ready_at
    not-ready-at p e = rw (found_none (sym is ∙ e))

    pub adds-nothing : (word : ℕ) → found ≡ None → word ≡ with_task k word n
    unfolding with_task
    adds-nothing word e = rw (found_none (sym is ∙ e))

    module _ {x : TaskNumber} (e : found ≡ Some x) {current : ℕ} (c : current ≡ k.tasks.current ! x.0) where
      pub ready-at-is : (p : ℕ) → eqb current p ≡ is_ready_at k p n
      unfolding is_ready_at
      ready-at-is p = let f = found-one x (sym is ∙ e) in rw (f.0, c, f.1)

      pub adds-bit : (word : ℕ) → with_priority word current true ≡ with_task k word n
      unfolding with_task
      adds-bit word = let f = found-one x (sym is ∙ e) in rw (f.0, c, f.1)

pub bit-renewed : (w : List ℕ) (t : ℕ) {p word new : ℕ} {on : Bool} {w' : List ℕ} → p ≡ (kernel w).tasks.current ! t
    → on ≡ ready_at (facts (kernel w)) (kernel w).tasks.current p → word ≡ (kernel w).bitmap ! 0 → new ≡ with_priority word p on
    → Represents w' (with_bitmap (kernel w) new) → Represents w' (with_fresh_bit (kernel w) ((kernel w).tasks.current ! t))
bit-renewed w t p-is on-is word-is New-is r = record { length = r.length; kernel = cc }

-- ---- all bits, task by task

module _ (k : Kernel) where
  -- one task sets the bit of its priority
  task-adds : (f : ℕ → Bool) (t : ℕ) → with_task k (word_of (map f (up_to priorities))) t ≡ word_of (map (λ p. f p || is_ready_at k p t) (up_to priorities))
  unfolding with_task is_ready_at
  task-adds f t = go (is_ready k t) refl
    where
      go : (b : Bool) → is_ready k t ≡ b → cond b (with_priority (word_of (map f (up_to priorities))) (k.tasks.current ! t) true) (word_of (map f (up_to priorities)))
          ≡ word_of (map (λ p. f p || (b && eqb (k.tasks.current ! t) p)) (up_to priorities))
      go true e =
          one-differs f (λ p. f p || eqb (k.tasks.current ! t) p) true (k.tasks.current ! t)
          (or_right (f (k.tasks.current ! t)) (eqb (k.tasks.current ! t) (k.tasks.current ! t)) (eq-eqb (k.tasks.current ! t) (k.tasks.current ! t) refl))
          (λ q z. sym (ap (λ (b : Bool). f q || b) (ne_eqb (k.tasks.current ! t) q (λ y. z (sym y))) ∙ or-false (f q)))
      go false e = ap (λ (g : ℕ → Bool). word_of (map g (up_to priorities))) (fun_ext (λ p. sym (or-false (f p))))

  tasks-add : (f : ℕ → Bool) (ts : List ℕ) → foldl (with_task k) (word_of (map f (up_to priorities))) ts ≡ word_of (map (λ p. f p || any (is_ready_at k p) ts) (up_to priorities))
  tasks-add f [] = ap (λ (g : ℕ → Bool). word_of (map g (up_to priorities))) (fun_ext (λ p. sym (or-false (f p))))
  tasks-add f (t ∷ ts) =
      ap (λ (w : ℕ). foldl (with_task k) w ts) (task-adds f t) ∙ tasks-add (λ p. f p || is_ready_at k p t) ts
      ∙ ap (λ (g : ℕ → Bool). word_of (map g (up_to priorities))) (fun_ext (λ p. or_assoc (f p) (is_ready_at k p t) (any (is_ready_at k p) ts)))

  all-tasks : foldl (with_task k) 0 (up_to tasks) ≡ ready_bitmap (facts k) k.tasks.current
  unfolding ready_bitmap ready_at is_ready_at is_ready word_of
  all-tasks = tasks-add (λ p. false) (up_to tasks)

  -- the tasks from a number on still add their bits to the word so far
  unfoldable pub Adding : ℕ → ℕ → Type 0
  Adding word n = foldl (with_task k) word (numbers tasks n) ≡ ready_bitmap (facts k) k.tasks.current

  pub adding-start : Adding 0 1
  unfolding Adding
  adding-start = sym (rest_all (foldl (with_task k) 0) tasks) ∙ all-tasks

  pub adding-more : (word n : ℕ) {r : ℕ} → Adding word n → n ≤ tasks → r ≡ with_task k word n → Adding r (n + 1)
  unfolding Adding
  adding-more word n a l e = ap (λ (w : ℕ). foldl (with_task k) w (numbers tasks (n + 1))) e ∙ sym (rest-here (foldl (with_task k) word) tasks n l) ∙ a

  pub adding-done : (word n : ℕ) → Adding word n → tasks < n → word ≡ ready_bitmap (facts k) k.tasks.current
  unfolding Adding
  adding-done word n a l = sym (rest-done (foldl (with_task k) word) tasks n l) ∙ a
