-- The ledger's lines: a task stands where the kernel has it, and joins and departs as it arrives and departs there.
use mathlib.Core.Logic.{⊎_elim}
use Rattle.model.proofs.Terms.{Ledger, with_arrivals, set-get_or, ℕ, suc, ◌≤◌, ◌<◌, ℕ_discrete, dec_le, arith, ◌≡◌, ◌∙◌, refl, sym, ap, ◌≢◌, Bool, true, false, false≢true, List, [], ◌∷◌, ◌++◌, map, length, get_or, set, append-nil, List·getD-eq-default, get_or-set_other, eqb, eq-eqb, ne_eqb, le-leb, tasks, ◌!◌, keep, any, member, without, place_where, Queue, queue, absent, dormant, ready, locking, sending, receiving, getting, Kernel, departed, arrived, stands_in, facts, arrive, ByNumber, none, some, with_lines, depart, join, line, line_of, standing}
use Rattle.model.proofs.ListLaws.{or_left, bool-ext, entry-inside, some_at, none-at}
use Rattle.queue.proofs.ArrivalLaws.{same_queue, arrive-queue, select-departed, member-select}
use Rattle.queue.proofs.Listing.{is-started, is-listed, room-left}
use Rattle.queue.proofs.Members.{standing-in, in-queue}
use Rattle.invariant.specs.Rows.{TaskRow, task_rows, open_tasks}
use Rattle.invariant.specs.Invariant.{Invariant}
use Rattle.invariant.proofs.Exchange.{Exchanged, at_row, inside, numbers, task-row}
use Rattle.invariant.proofs.Moves.{with_row, moved_row, moved, arrived-anew}
use Rattle.ledger.specs.Abstraction.{table, task_entry, widths, lines_of, ledger_of}
use Rattle.ledger.proofs.Tables.{length-table, table_at, table-any, table-agree, exchanged-table, map-table, first-in, with_tasks_and_lines}

-- ---- lines made queue by queue

-- the lines of a place
abbrev lines_at : (Queue → List ℕ) → ℕ → List (List ℕ)
lines_at f p = table (widths ! p) (λ o. f (queue p o))

module _ (f : Queue → List ℕ) where
  lines_at-table : (p : ℕ) → get_or (lines_of f) p [] ≡ lines_at f p
  unfolding lines_of table
  lines_at-table p = table-any (length widths) (lines_at f) p [] (λ h. rw (List·getD-eq-default widths 0 {n = p} h))

  lines-without : (t : ℕ) → map (map (without t)) (lines_of f) ≡ lines_of (λ q. without t (f q))
  unfolding lines_of
  lines-without t = map-table (map (without t)) (length widths) (lines_at f) ∙ table-agree (length widths) _ _ (λ p h. map-table (without t) (widths ! p) _)

  -- one line exchanged
  line-exchanged : (g : Queue → List ℕ) (q : Queue) (l : List ℕ) → g q ≡ l → ((r : Queue) → same_queue q r ≡ false → g r ≡ f r)
      → set (lines_of f) q.place (set (lines_at f q.place) q.object l) ≡ lines_of g
  unfolding lines_of
  line-exchanged g q l here there =
      ap (set (lines_of f) q.place) (exchanged-table (λ l. l) (widths ! q.place) inner) ∙ exchanged-table (λ ls. ls) (length widths) outer
    where
      inner : Exchanged (λ o. f (queue q.place o)) (λ o. g (queue q.place o)) q.object l
      inner = record { same = here; other = λ o d. there (queue q.place o) (rw (eq-eqb q.place q.place refl, ne_eqb q.object o (λ e. d (sym e)))) }

      outer : Exchanged (lines_at f) (lines_at g) q.place (lines_at g q.place)
      outer = record { same = refl; other = λ p d. table-agree (widths ! p) _ _ (λ o h. there (queue p o) (rw (ne_eqb q.place p (λ e. d (sym e))))) }

  -- the one line that passes a test is found
  line-found : (p : List ℕ → Bool) (q : Queue) → q.object < widths ! q.place → p (f q) ≡ true → ((r : Queue) → r ≢ q → p (f r) ≡ false)
      → queue (place_where (any p) (lines_of f)) (place_where p (get_or (lines_of f) (place_where (any p) (lines_of f)) [])) ≡ q
  line-found p q h here only = rw (place, lines_at-table q.place) (ap (queue q.place) object)
    where
      place : place_where (any p) (lines_of f) ≡ q.place
      place = unfold lines_of in
          first-in (any p) [] (length widths) (lines_at f) q.place (entry-inside widths q.place (λ (z : widths ! q.place ≡ 0). omega arith))
          (some_at p [] (lines_at f q.place) q.object (rw length-table h) (ap p (table_at (widths ! q.place) _ q.object [] h) ∙ here))
          (λ r l. none-at p [] (lines_at f r) (λ o i.
          ap p (table_at (widths ! r) _ o [] (rw length-table at i)) ∙ only (queue r o) (λ e. omega (arith, ap (λ (x : Queue). x.place) e))))

      object : place_where p (lines_at f q.place) ≡ q.object
      object = first-in p [] (widths ! q.place) _ q.object h here (λ o l. only (queue q.place o) (λ e. omega (arith, ap (λ (x : Queue). x.object) e)))

-- ---- the kernel's lines

pub started-entry : (r : TaskRow) → ready ≤ r.place → task_entry r ≡ some (record { base = r.base; initial = r.initial; started = true })
started-entry r h = rw (ne_eqb r.place absent (λ (z : r.place ≡ 0). omega arith), le-leb ready r.place h)

module _ {exiting : ℕ} {k : Kernel} {store outbox : List ℕ} (v : Invariant exiting k store outbox) where
  module _ (t : ℕ) (low : 1 ≤ t) (high : t ≤ tasks) where
    abbrev place : ℕ
    place = k.tasks.place ! t

    abbrev object : ℕ
    object = k.tasks.object ! t

    no-object : place < locking → object ≡ 0
    no-object h = ⊎_elim (λ x. x.1) (λ x. absurd (omega (arith, x.0))) (v.of_tasks.each t low high).time

    -- a started task has a line
    pub has-line : ready ≤ place → object < widths ! place
    unfolding widths
    has-line h = go (ℕ_discrete place locking) (ℕ_discrete place sending) (ℕ_discrete place receiving) (ℕ_discrete place getting)
      where
        there : {last : ℕ} {exists : List ℕ} → ByNumber last exists → exists ! object ≡ 1 → object < suc last
        there {exists} l e = omega (arith, (numbers {n = object} l (λ (z : exists ! object ≡ 0). omega arith)).1)

        go : Dec (place ≡ locking) → Dec (place ≡ sending) → Dec (place ≡ receiving) → Dec (place ≡ getting) → object < widths ! place
        go (yes e) b c d = rw e (there v.of_mutexes.lists.exists (v.of_mutexes.waits t low high e).there)
        go (no a) (yes e) c d = rw e (there v.of_buffers.lists.exists (v.of_buffers.sends t low high e).there)
        go (no a) (no b) (yes e) d = rw e (there v.of_buffers.lists.exists (v.of_buffers.receives t low high e).there)
        go (no a) (no b) (no c) (yes e) = rw e (there v.of_pools.lists.exists (v.of_pools.waits t low high e).there)
        go (no a) (no b) (no c) (no d) =
            let m : place ≤ getting = ⊎_elim (λ r. omega (arith, r.0)) (λ r. r.0.1) (v.of_tasks.each t low high).range in
            let e : place ≡ ready = omega arith in
            rw (e, no-object (omega arith)) (omega arith)

    pub stands_at : standing (ledger_of k) t ≡ queue (k.tasks.place ! t) (k.tasks.object ! t)
    unfolding standing line_of ledger_of
    stands_at =
        let entry = table_at (suc tasks) (λ u. task_entry (task_rows k.tasks u)) t none (omega arith) in
        elim (dec_le ready place) [
          | yes h ↦
              rw (entry ∙ started-entry (task_rows k.tasks t) h, standing)
              (line-found (facts k).arrivals (member t) (queue place object) (has-line h)
              (in-queue k _ t (record { low = low; high = high; place = refl; object = refl }) (is-listed v.of_tasks.listing t (λ z. omega arith) h)) only)
          | no h ↦
              rw (entry, standing, no-object (omega arith))
              (elim (ℕ_discrete place absent) [ yes e ↦ rw e | no d ↦ let e : place ≡ dormant = omega arith in rw e ])
        ]
      where
        only : (q : Queue) → q ≢ queue place object → member t ((facts k).arrivals q) ≡ false
        only q d = bool-ext _ false (λ m. let s = standing-in k q t m in absurd (d (sym (λ i. queue (s.place i) (s.object i))))) (λ e. absurd (false≢true e))

    pub joined-lines : (q : Queue) (argument left : ℕ) → q.object < widths ! q.place
        → (join (ledger_of k) t q).lines ≡ (ledger_of (moved k t q argument left (arrived t k.arrivals))).lines
    unfolding join depart with_lines line ledger_of
    joined-lines q n m h =
        rw (lines-without (facts k).arrivals t, lines_at-table (λ r. without t ((facts k).arrivals r)) q.place, table_at)
        (line-exchanged _ _ q _ (after q ∙ rw (eq-eqb q.place q.place refl, eq-eqb q.object q.object refl)) (λ r e. after r ∙ rw (e, append-nil)))
      where
        after : (r : Queue) → (facts (moved k t q n m (arrived t k.arrivals))).arrivals r ≡ without t ((facts k).arrivals r) ++ keep (same_queue q r) t []
        after r = unfold facts moved with_row open_tasks arrive stands_in in
            (let x = v.of_tasks in arrive-queue k t q r low high (inside x.lists.place high) (inside x.lists.object high) (room-left x.listing t low high))

    pub departed-lines : (depart (ledger_of k) t).lines ≡ (ledger_of (moved k t (queue dormant 0) 0 0 (departed t k.arrivals))).lines
    unfolding depart with_lines ledger_of facts moved with_row open_tasks stands_in
    departed-lines =
        lines-without (facts k).arrivals t
        ∙ ap lines_of (sym (λ i r. select-departed (stands_in k r) (stands_in (moved k t (queue dormant 0) 0 0 []) r) t refl
        (λ u d. rw (get_or-set_other k.tasks.place t u dormant 0 d, get_or-set_other k.tasks.object t u 0 0 d)) k.arrivals refl i))

    -- a started task that goes to another queue
    pub joins : (q : Queue) (argument left : ℕ) → ready ≤ k.tasks.place ! t → ready ≤ q.place → q.object < widths ! q.place
        → join (ledger_of k) t q ≡ ledger_of (moved k t q argument left (arrived t k.arrivals))
    unfolding join depart with_lines ledger_of moved with_row open_tasks
    joins q n m was is h =
        λ i. with_tasks_and_lines (ledger_of k) (same i) (joined-lines q n m h i)
      where
        same : (ledger_of k).tasks ≡ (ledger_of (moved k t q n m (arrived t k.arrivals))).tasks
        same = let new = moved_row (task_rows k.tasks t) q n m in
            table-agree (suc tasks) _ _ (λ u j.
            at_row (task-row k.tasks v.of_tasks.lists t new (k.tasks.current ! t) high) (λ r. task_entry (task_rows k.tasks u) ≡ task_entry r) u
            (λ e. rw e (started-entry (task_rows k.tasks t) was ∙ sym (started-entry new is))) (λ d. refl))

    -- one that joins its own line anew
    pub joins-own : ready ≤ place → join (ledger_of k) t (queue place object) ≡ ledger_of (with_arrivals k (arrived t k.arrivals))
    unfolding moved with_row open_tasks
    joins-own h =
        let x = k.tasks in
        joins _ (x.argument ! t) (x.left ! t) h h (has-line h)
        ∙ ap ledger_of
        (rw (
          set-get_or x.place t 0,
          set-get_or x.object t 0,
          set-get_or x.argument t 0,
          set-get_or x.initial t 0,
          set-get_or x.base t 0,
          set-get_or x.current t 0,
          set-get_or x.left t 0,
        ))

  pub lines_are : (q : Queue) → line (ledger_of k) q ≡ (facts k).arrivals q
  unfolding line ledger_of
  lines_are q =
      rw (lines_at-table (facts k).arrivals q.place)
      (table-any (widths ! q.place) (λ o. (facts k).arrivals (queue q.place o)) q.object [] (λ past. nobody ((facts k).arrivals q) (λ u m.
      let s = standing-in k q u m in
      let listed = (member-select (stands_in k q) u k.arrivals (unfold facts in m)).1 in
      let inside = rw (s.object, s.place) at (has-line u s.low s.high (is-started v.of_tasks.listing u (λ (z : u ≡ 0). omega arith) listed)) in
      omega arith)))
    where
      nobody : (ts : List ℕ) → ((u : ℕ) → member u ts ≡ true → ⊥) → ts ≡ []
      nobody [] h = refl
      nobody (t ∷ ts) h = absurd (h t (or_left (eqb t t) _ (eq-eqb t t refl)))

-- joining anew in the same line: the task stands where it stood
pub joined-anew : {exiting : ℕ} {k : Kernel} {store outbox : List ℕ} → Invariant exiting k store outbox → (t : ℕ) → 1 ≤ t → t ≤ tasks
    → ready ≤ (standing (ledger_of k) t).place → standing (join (ledger_of k) t (standing (ledger_of k) t)) t ≡ standing (ledger_of k) t
unfolding open_tasks
joined-anew v t low high h =
    let was = rw (stands_at v t low high) at h in
    rw (stands_at v t low high)
    (ap (λ (j : Ledger). standing j t) (joins-own v t low high was) ∙ stands_at (arrived-anew v t low high was) t low high)
