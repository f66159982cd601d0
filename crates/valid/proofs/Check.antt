-- The check of whatever is lent: the lengths first, then entry 0 of every list, then the clauses. Assumes nothing.
use Prim.Native.Nat.{ℕ, zero, suc, ◌*◌}
use native.Mathlib.Omega.{arith}
use mathlib.Core.Path.{◌≡◌, ◌∙◌, refl, sym}
use mathlib.Core.Bool.{Bool, true, false, ◌&&◌, ◌||◌, not}
use mathlib.Core.List.{List, [], ◌∷◌}
use lib.ListN.{length, get_or}
use lib.Dec.{eqb}
use borrow.Author.Tests.{eqb-true, eq-eqb, le-leb, lt-leb, not-true, not-false}
use Rattle.model.specs.Sizes.{tasks, mutexes, pools, blocks, store_bytes, outbox_bytes}
use Rattle.model.specs.Lists.{◌!◌, all, count_from, up_to, within}
use Rattle.model.specs.Kernel.{Kernel, slot}
use Rattle.model.specs.World.{Lent}
use Rattle.model.specs.Valid.{TaskLists, MutexLists, BufferLists, PoolLists, lengths, task_range, buffer_range, block_flag, argument, wait_fields, ceiling, locking_task, getting_task, receiving_task, first_sender, valid}
use Rattle.model.specs.Flags.{joined_flags, passes}
use Rattle.model.proofs.FlagLaws.{asked-together}
use Rattle.model.specs.Words.{word_count, sizes, fields, kernel}
use Rattle.state.proofs.WordLaws.{sized, size_of}
use Rattle.model.specs.Field as field
use Rattle.valid.specs.Tests.{and3, and4, eq-agrees}
use Rattle.valid.specs.Agree.{task-lists, mutex-lists, buffer-lists, pool-lists}
use Rattle.model.specs.Lent.{lent, is_valid}
use Rattle.valid.specs.Check.{task_tests, buffer_tests, block_flags, right_lengths, none_zero, clauses, kind-by-kind}

-- ---- the flags of pool 0, which is none and has no blocks

all_same : (p q : ℕ → Bool) → ((n : ℕ) → p n ≡ q n) → (ns : List ℕ) → all p ns ≡ all q ns
all_same p q h [] = refl
all_same p q h (n ∷ ns) = rw (h n, all_same p q h ns)

module _ (k : Kernel) (h : PoolLists k.pools) where
  none-flag : (b : ℕ) → block_flag k 0 b ≡ eqb (k.pools.taken ! slot 0 b) 0
  unfolding block_flag
  none-flag b =
      rw h.count.none_zero (go (eqb (k.pools.taken ! slot 0 b) 0) (eqb (k.pools.taken ! slot 0 b) 1) b)
    where
      go : (p q : Bool) (n : ℕ) → p || (q && within 1 0 n) ≡ p
      go true q n = refl
      go false false n = refl
      go false true zero = refl
      go false true (suc n) = rw (le-leb 1 (suc n) (omega arith), lt-leb (suc n) 0 (omega arith))

  pub flag-tests : {first others : Bool} → first ≡ all (λ b. eqb (k.pools.taken ! slot 0 b) 0) (count_from 0 (suc blocks))
      → others ≡ all (λ p. all (block_flag k p) (count_from 0 (suc blocks))) (up_to pools) → first && others ≡ block_flags k
  flag-tests e f = rw (e, f, all_same (block_flag k 0) (λ b. eqb (k.pools.taken ! slot 0 b) 0) none-flag (count_from 0 (suc blocks)))

-- ---- flags side by side are those of the lists

pub task-tests : (k : Kernel) (t : ℕ) {a b c d e f g : Bool} → a ≡ task_range k t → b ≡ argument k t → c ≡ wait_fields k t → d ≡ all (ceiling k t) (up_to mutexes)
    → e ≡ locking_task k t → f ≡ getting_task k t → g ≡ receiving_task k t → a && b && c && d && e && f && g ≡ passes (task_tests k) t
task-tests k t p q r s u v w = rw (p, q, r, s, u, v, w) (asked-together (task_tests k) t)

pub buffer-tests : (k : Kernel) (b : ℕ) {p q : Bool} → p ≡ buffer_range k b → q ≡ first_sender k b → p && q ≡ passes (buffer_tests k) b
buffer-tests k b e f = rw (e, f) (asked-together (buffer_tests k) b)

-- all clauses, each at its place in the check's order
abbrev clause : Lent → ℕ → Bool
clause x i = get_or (clauses x) i true

pub clause-tests : (x : Lent) {a b c d e f g h i j k : Bool} → a ≡ clause x 0 → b ≡ clause x 1 → c ≡ clause x 2 → d ≡ clause x 3 → e ≡ clause x 4
    → f ≡ clause x 5 → g ≡ clause x 6 → h ≡ clause x 7 → i ≡ clause x 8 → j ≡ clause x 9 → k ≡ clause x 10
    → a && b && c && d && e && f && g && h && i && j && k ≡ joined_flags (clauses x)
clause-tests x o p q r s t u v w y z = rw (o, p, q, r, s, t, u, v, w, y, z)

-- ---- whatever is lent

-- entry 0 of every list, as a statement
pub none-lists : (w : List ℕ) (z : Bool) → z ≡ none_zero (kernel w) → not z ≡ false
    → TaskLists (kernel w).tasks × (MutexLists (kernel w).mutexes × (BufferLists (kernel w).buffers × PoolLists (kernel w).pools))
none-lists w z first zeros =
    let k = kernel w in
    let l = and4 _ _ _ _ (task-lists k) (mutex-lists k) (buffer-lists k) (pool-lists k) in
    let q = l.0 (sym first ∙ not-false z zeros) in
    (q.0, (q.1, (q.2, q.3)))

module _ (w s o : List ℕ) where
  abbrev RightLengths : Type 0
  RightLengths = (length w ≡ word_count) × (length s ≡ store_bytes) × (length o ≡ outbox_bytes)

  right-lengths : right_lengths w s o ≡ true → RightLengths
  right-lengths e = (and3 _ _ _ (eq-agrees (length w) word_count) (eq-agrees (length s) store_bytes) (eq-agrees (length o) outbox_bytes)).0 e

  -- the words are a state's, so the areas decide
  by-areas : length w ≡ word_count → lengths (lent w s o) ≡ eqb (length s) store_bytes && eqb (length o) outbox_bytes
  unfolding fields sizes
  by-areas h =
      rw (
        eq-eqb (length (kernel w).arrivals) tasks (size_of (kernel w) (sized w h) field.arrivals),
        eq-eqb (length (kernel w).pools.taken) (suc pools * suc blocks) (size_of (kernel w) (sized w h) field.taken),
      )

  asked : RightLengths → is_valid w s o ≡ joined_flags (none_zero (kernel w) ∷ clauses (lent w s o))
  unfolding is_valid
  asked r =
      rw (eq-eqb (length w) word_count r.0)
      (kind-by-kind (lent w s o) ∙ rw (by-areas r.0, eq-eqb (length s) store_bytes r.1, eq-eqb (length o) outbox_bytes r.2))

  module _ {a : Bool} (lengths : a ≡ right_lengths w s o) where
    pub wrong-lengths : not a ≡ true → false ≡ is_valid w s o
    unfolding is_valid
    wrong-lengths wrong = go (eqb (length w) word_count) refl (sym lengths ∙ not-true a wrong)
      where
        go : (b : Bool) → eqb (length w) word_count ≡ b → b && eqb (length s) store_bytes && eqb (length o) outbox_bytes ≡ false → false ≡ b && valid (lent w s o)
        go true q f = sym (kind-by-kind (lent w s o) ∙ rw (by-areas (eqb-true (length w) word_count q) ∙ f))
        go false q f = refl

    module _ (right : not a ≡ false) where
      are-right : RightLengths
      are-right = right-lengths (sym lengths ∙ not-false a right)

      pub right-words : length w ≡ word_count
      right-words = are-right.0

      module _ {z : Bool} (first : z ≡ none_zero (kernel w)) where
        pub not-zero : not z ≡ true → false ≡ is_valid w s o
        not-zero bad = sym (asked are-right ∙ rw (sym first ∙ not-true z bad))

        pub by-clauses : not z ≡ false → {r : Bool} → r ≡ joined_flags (clauses (lent w s o)) → r ≡ is_valid w s o
        by-clauses zeros e = e ∙ sym (asked are-right ∙ rw (sym first ∙ not-false z zeros))
