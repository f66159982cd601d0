-- The check asks its clauses kind by kind, the definition in 01's order: the same. Assumes nothing.
use Rattle.std.specs.Prelude.{ℕ, suc, ◌≡◌, refl, Bool, ◌&&◌, List, [], ◌∷◌, ◌++◌, map, length, eqb, leb}
use Rattle.std.proofs.Common.{◌∙◌}
use Rattle.std.proofs.Math.Path.{sym}
use Rattle.model.specs.Sizes.{tasks, mutexes, buffers, pools, blocks, pool_bytes, store_bytes, outbox_bytes}
use Rattle.model.specs.Lists.{all, count_from, up_to}
use Rattle.model.specs.Kernel.{Kernel}
use Rattle.model.specs.World.{Lent}
use Rattle.model.specs.Refusal.{pool_sum}
use Rattle.model.specs.Valid.{lists, task_lists, mutex_lists, buffer_lists, pool_lists, lengths, task_range, mutex_range, buffer_range, pool_range, block_flag, argument, wait_fields, arrivals, current_priorities, right_bitmap, ceiling, locking_task, getting_task, receiving_task, first_sender, region_layout, outbox_part, valid}
use Rattle.model.specs.Flags.{every, joined_flags, passes}
use Rattle.model.proofs.FlagLaws.{joined-every, test-by-test, every_append, same_flags}
use Rattle.model.specs.Words.{word_count}
use Rattle.valid.specs.Agree.{as_defined}

-- what is asked of every task, and of every buffer
abbrev pub task_tests : Kernel → List (ℕ → Bool)
task_tests k =
    task_range k ∷ argument k ∷ wait_fields k ∷ (λ t. all (ceiling k t) (up_to mutexes))
    ∷ locking_task k ∷ getting_task k ∷ receiving_task k ∷ []

abbrev pub buffer_tests : Kernel → List (ℕ → Bool)
buffer_tests k = buffer_range k ∷ first_sender k ∷ []

abbrev pub block_flags : Kernel → Bool
block_flags k = all (λ p. all (block_flag k p) (count_from 0 (suc blocks))) (count_from 0 (suc pools))

-- the lengths of what is lent
abbrev pub right_lengths : List ℕ → List ℕ → List ℕ → Bool
right_lengths words store outbox = eqb (length words) word_count && eqb (length store) store_bytes && eqb (length outbox) outbox_bytes

-- entry 0 of every list
abbrev pub none_zero : Kernel → Bool
none_zero k = lists tasks (task_lists k) && lists mutexes (mutex_lists k) && lists buffers (buffer_lists k) && lists pools (pool_lists k)

-- what is asked where the lengths are right and entry 0 is zero, in the check's order
abbrev pub clauses : Lent → List Bool
clauses x =
    let k = x.kernel in
    all (passes (task_tests k)) (up_to tasks)
    ∷ all (mutex_range k) (up_to mutexes)
    ∷ all (passes (buffer_tests k)) (up_to buffers)
    ∷ all (pool_range k) (up_to pools)
    ∷ block_flags k
    ∷ leb (pool_sum k) pool_bytes
    ∷ arrivals k
    ∷ current_priorities k
    ∷ right_bitmap k
    ∷ all (region_layout k x.store) (up_to buffers)
    ∷ all (outbox_part k x.outbox) (up_to tasks)
    ∷ []

module _ (x : Lent) where
  abbrev k : Kernel
  k = x.kernel

  -- the definition's clauses, kind by kind
  abbrev of_lists : List Bool
  of_lists = lists tasks (task_lists k) ∷ lists mutexes (mutex_lists k) ∷ lists buffers (buffer_lists k) ∷ lists pools (pool_lists k) ∷ []

  abbrev of_tasks : List Bool
  of_tasks = map (λ p. all p (up_to tasks)) (task_tests k)

  abbrev of_buffers : List Bool
  of_buffers = map (λ p. all p (up_to buffers)) (buffer_tests k)

  abbrev of_others : List Bool
  of_others =
      all (pool_range k) (up_to pools) ∷ block_flags k ∷ leb (pool_sum k) pool_bytes ∷ arrivals k ∷ current_priorities k ∷ right_bitmap k
      ∷ all (region_layout k x.store) (up_to buffers) ∷ all (outbox_part k x.outbox) (up_to tasks) ∷ []

  abbrev by_kind : List Bool
  by_kind = lengths x ∷ (of_lists ++ (of_tasks ++ (all (mutex_range k) (up_to mutexes) ∷ (of_buffers ++ of_others))))

  reordered : every (as_defined x) ≡ every by_kind
  reordered =
      same_flags
      (4 ∷ 0 ∷ 1 ∷ 2 ∷ 3 ∷ 5 ∷ 11 ∷ 12 ∷ 16 ∷ 17 ∷ 18 ∷ 19 ∷ 6 ∷ 7 ∷ 20 ∷ 8 ∷ 9 ∷ 10 ∷ 13 ∷ 14 ∷ 15 ∷ 21 ∷ 22 ∷ [])
      (1 ∷ 2 ∷ 3 ∷ 4 ∷ 0 ∷ 5 ∷ 12 ∷ 13 ∷ 15 ∷ 16 ∷ 17 ∷ 6 ∷ 7 ∷ 18 ∷ 19 ∷ 20 ∷ 8 ∷ 9 ∷ 10 ∷ 11 ∷ 14 ∷ 21 ∷ 22 ∷ [])
      (as_defined x) by_kind refl refl

  grouped : (len : Bool) (ls ts : List Bool) (m : Bool) (bs os : List Bool)
      → every (len ∷ (ls ++ (ts ++ (m ∷ (bs ++ os))))) ≡ every (len ∷ every ls ∷ every ts ∷ m ∷ every bs ∷ os)
  grouped len ls ts m bs os = rw (every_append ls (ts ++ (m ∷ (bs ++ os))), every_append ts (m ∷ (bs ++ os)), every_append bs os)

  by_loop : every (lengths x ∷ every of_lists ∷ every of_tasks ∷ all (mutex_range k) (up_to mutexes) ∷ every of_buffers ∷ of_others) ≡ every (lengths x ∷ none_zero k ∷ clauses x)
  by_loop = rw (test-by-test (task_tests k) (up_to tasks), test-by-test (buffer_tests k) (up_to buffers), ← joined-every of_lists)

  -- the order of the clauses does not matter, nor whether they are asked one by one or kind by kind
  pub kind-by-kind : valid x ≡ joined_flags (lengths x ∷ none_zero k ∷ clauses x)
  unfolding valid
  kind-by-kind =
      joined-every (as_defined x) ∙ reordered ∙ grouped (lengths x) of_lists of_tasks (all (mutex_range k) (up_to mutexes)) of_buffers of_others ∙ by_loop
      ∙ sym (joined-every (lengths x ∷ none_zero k ∷ clauses x))
