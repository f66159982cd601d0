-- A task becomes dormant: the ledger frees all that it holds at once, the kernel one by one, and each mutex goes to the first that waits.
use Rattle.model.proofs.Terms.{ℕ, get_or, set, with_tasks, absent, zero, suc, ◌≤◌, ◌<◌, ℕ_discrete, arith, ◌≢◌, ◌≡◌, ◌∙◌, refl, sym, ap, true, false, cond, Option, none, some, Option·map, [], ◌∷◌, map, foldl, set-get_or, eqb, eq-eqb, ne_eqb, tasks, mutexes, ◌!◌, up_to, dormant, ready, Kernel, with_arrivals, with_place, with_base, departed, stands_in, facts, recompute, World, settled, leave_kernel, leave, release_all, become_dormant, TaskEntry, MutexEntry, Ledger, with_task_entry, with_mutex_entry, with_lines, depart, on_task, on_mutex, holds, falls_dormant}
use lib.Seq.{map-set_same}
use Rattle.model.proofs.Folds.{numbers_keep}
use Rattle.invariant.specs.Rows.{TaskRow, mutex_rows, open_tasks, open_world}
use Rattle.invariant.specs.Invariant.{Steady}
use Rattle.invariant.proofs.Moves.{with_row, moved}
use Rattle.invariant.proofs.Releases.{Giving, gives, not_first, give}
use Rattle.invariant.proofs.Dormant.{fell, fell-steady, fell-dormant}
use Rattle.ledger.specs.Abstraction.{mutex_entry, table, ledger_of}
use Rattle.ledger.proofs.Tables.{table_at, table-agree, map-table, with_tasks_and_lines, MutexEntries, on_mutexes}
use Rattle.ledger.proofs.Lines.{departed-lines}
use Rattle.ledger.proofs.Entries.{entry-changed, task-changed, rows-entered}
use Rattle.ledger.proofs.Acts.{Follows, Ahead, not-priorities, held_by, release-ahead}

module _ (t : ℕ) (low : 1 ≤ t) where
  -- an entry that the task holds no more, and all entries so
  abbrev gave_up : MutexEntry → MutexEntry
  gave_up e = cond (eqb e.holder t) (holds 0 e) e

  abbrev freed : MutexEntries → MutexEntries
  freed xs = map (Option·map gave_up) xs

  -- the ledger's loop, which computes number by number
  all-freed : (l : Ledger) (k : Kernel) → k.mutexes.exists ! 0 ≡ 0 → l.mutexes ≡ (ledger_of k).mutexes
      → foldl (λ j m. on_mutex j m gave_up) l (up_to mutexes) ≡ on_mutexes freed l
  unfolding on_mutex with_mutex_entry ledger_of table
  all-freed l k z is = rw (is, z)

  -- another holder is not touched
  passes : (u : ℕ) → u ≢ t → (m : ℕ) (xs : MutexEntries) → held_by m u (freed xs) ≡ freed (held_by m u xs)
  unfolding holds
  passes u d m [] = refl
  passes u d zero (none ∷ xs) = refl
  passes u d zero (some e ∷ xs) =
      let same = elim (eqb e.holder t) as (λ b. holds u (cond b (holds 0 e) e) ≡ holds u e) [ true ↦ refl | false ↦ refl ] in
      rw (ne_eqb u t d) (ap (λ (y : MutexEntry). some y ∷ freed xs) same)
  passes u d (suc m) (x ∷ xs) = ap (λ (ys : MutexEntries). Option·map gave_up x ∷ ys) (passes u d m xs)

  module _ (k : Kernel) where
    abbrev entry : ℕ → Option MutexEntry
    entry m = mutex_entry (mutex_rows k.mutexes m)

    -- what it does not hold stays
    none-freed : ((m : ℕ) → m < suc mutexes → k.mutexes.holder ! m ≢ t) → freed (ledger_of k).mutexes ≡ (ledger_of k).mutexes
    unfolding ledger_of
    none-freed h =
        map-table (Option·map gave_up) (suc mutexes) entry
        ∙ table-agree (suc mutexes) (λ m. Option·map gave_up (entry m)) entry (λ m i. rw (entry-changed gave_up, ne_eqb (k.mutexes.holder ! m) t (h m i)))

    -- what it holds is free
    one-freed : (m : ℕ) → m ≤ mutexes → k.mutexes.holder ! m ≡ t → held_by m 0 (freed (ledger_of k).mutexes) ≡ freed (ledger_of k).mutexes
    unfolding holds ledger_of
    one-freed m h e =
        let z : 0 ≢ t = λ (y : 0 ≡ t). omega arith in
        passes 0 z m (ledger_of k).mutexes
        ∙ map-set_same (Option·map gave_up) (ledger_of k).mutexes m _ none
        (rw (
          table_at (suc mutexes) entry m none (omega arith),
          entry-changed (holds 0),
          entry-changed gave_up,
          entry-changed gave_up,
          eq-eqb (k.mutexes.holder ! m) t e,
          ne_eqb 0 t z,
        ))

  -- the kernel's loop
  gave-follows : (l : Ledger) (w : World) → Steady t w → w.kernel.tasks.place ! t ≡ dormant → Ahead (on_mutexes freed) l w → Follows l (release_all w t)
  unfolding release_all
  gave-follows l w s out h = given _ (numbers_keep Gives (gives t low) mutexes turn w (record { steady = s; out = out; given = λ m i j. absurd (omega arith) }, h))
    where
      Gives : ℕ → World → Type 0
      Gives n v = Giving t n v × Ahead (on_mutexes freed) l v

      turn : (m : ℕ) (v : World) → 1 ≤ m → m ≤ mutexes → Gives m v → Gives (suc m) (gives t low v m)
      turn m v i j p = (give t low m v i j p.0, go (ℕ_discrete (v.kernel.mutexes.holder ! m) t))
        where
          go : Dec (v.kernel.mutexes.holder ! m ≡ t) → Ahead (on_mutexes freed) l (gives t low v m)
          go (no d) = rw (ne_eqb (v.kernel.mutexes.holder ! m) t d) p.1
          go (yes e) =
              let other = passes _ (not_first t low v m p.0.out) m (ledger_of v.kernel).mutexes in
              rw (eq-eqb (v.kernel.mutexes.holder ! m) t e) (release-ahead p.0.steady m j freed freed (one-freed v.kernel m j e) other l p.1)

      given : (v : World) → Gives (suc mutexes) v → Follows l v
      given v p = p.1 ∙ ap (λ (ys : MutexEntries). on_mutexes (λ xs. ys) (ledger_of v.kernel)) (none-freed v.kernel not-held)
        where
          not-held : (m : ℕ) → m < suc mutexes → v.kernel.mutexes.holder ! m ≢ t
          not-held zero i = rw p.0.steady.invariant.of_mutexes.lists.holder.none_zero (λ (z : 0 ≡ t). omega arith)
          not-held (suc m) i = p.0.given (suc m) (omega arith) i

-- "it is dormant, its base the initial one"
abbrev became : TaskEntry → TaskEntry
became e = record { base = e.initial; initial = e.initial; started = false }

module _ {w : World} (s : Steady 0 w) (t : ℕ) (low : 1 ≤ t) (high : t ≤ tasks) (was : ready ≤ w.kernel.tasks.place ! t) where
  abbrev k : Kernel
  k = w.kernel

  abbrev fallen : Kernel
  fallen = with_base (with_place (with_arrivals (leave_kernel k t) (departed t k.arrivals)) t dormant) t (k.tasks.initial ! t)

  falls : on_task (depart (ledger_of k) t) t became ≡ ledger_of fallen
  unfolding on_task with_task_entry depart with_lines ledger_of leave_kernel moved with_row facts stands_in open_tasks
  falls =
      let x = k.tasks in
      let l = ledger_of k in
      let r : TaskRow = record { place = dormant; object = 0; argument = 0; initial = x.initial ! t; base = x.initial ! t; left = 0 } in
      let e : set l.tasks t (Option·map became (get_or l.tasks t none)) ≡ (ledger_of (with_tasks k fallen.tasks)).tasks =
      rw (task-changed s.invariant t low high became, ne_eqb (x.place ! t) absent (λ (z : x.place ! t ≡ absent). omega arith))
      (rows-entered s.invariant t low high r (x.current ! t) fallen.tasks (rw (set-get_or x.initial t 0, set-get_or x.current t 0))) in
      λ i. with_tasks_and_lines l (e i) (departed-lines s.invariant t low high i)

pub dormant-follows : {w : World} → Steady 0 w → w.ended ≡ [] → (t : ℕ) → 1 ≤ t → t ≤ tasks → ready ≤ w.kernel.tasks.place ! t
    → Follows (falls_dormant (ledger_of w.kernel) t) (become_dormant w t)
unfolding become_dormant settled recompute leave leave_kernel falls_dormant on_task with_task_entry depart with_lines open_tasks open_world
dormant-follows {w} s z t low high was =
    gave-follows t low _ (fell s t low high was) (fell-steady s t low high was) (fell-dormant s t low high was)
    (rw z
    (all-freed t low (on_task (depart (ledger_of w.kernel) t) t became) w.kernel s.invariant.of_mutexes.lists.exists.none_zero refl
    ∙ ap (on_mutexes (freed t low)) (falls s t low high was ∙ sym (not-priorities _))))
