-- 01, "The ledger": what demand 3 works priorities, queue orders and the running task out from. It is fed each call, its answer and
-- the ended waits in order with their codes; nothing else.
use Rattle.std.specs.Prelude.{ℕ, suc, Bool, true, false, ◌&&◌, cond, get_or, set, replicate, ℤ, pos, negsuc, eqb}
use mathlib.Core.List.{List, [], ◌∷◌, ◌++◌, map, foldl}
use Rattle.std.proofs.Math.Option
use Rattle.std.proofs.Math.Option.{Option, none, some}
use Rattle.std.specs.Int.Signed.{le_z}
use Rattle.model.specs.declared.call.Call.{Call}
use Rattle.model.specs.declared.call.Call.TheVariants.{CreTsk, DelTsk, StaTsk, ExtTsk, TerTsk, ChgPri, CreMtx, DelMtx, LocMtx, UnlMtx, CreMbf, DelMbf, SndMbf, RcvMbf, CreMpf, DelMpf, GetMpf, RelMpf, Tick}
use Rattle.model.specs.declared.call.Answer.{Answer}
use Rattle.model.specs.declared.call.Answer.TheVariants.{Code, Waits, Exits}
use Rattle.model.specs.Sizes.{tasks, mutexes, buffers, pools}
use Rattle.model.specs.Lists.{◌!◌, count_from, up_to, any, member, without, place_where, head_of}
use Rattle.model.specs.Code.{number}
use Rattle.model.specs.Facts.{Facts, Queue, queue, ready_queue, absent, dormant, locking, sending, receiving, getting, ceilinged}
use Rattle.model.specs.Priority.{effectives}
use Rattle.model.specs.Queue.{by_priority, order}

-- "It holds each task's base and initial priority and whether it is started"
pub record TaskEntry : Type 0 where
  pub base : ℕ
  pub initial : ℕ
  pub started : Bool

-- "every other object's attribute, each mutex's ceiling and holder"
pub record MutexEntry : Type 0 where
  pub attribute : ℕ
  pub ceiling : ℕ
  pub holder : ℕ

-- "and each line's tasks as they joined". Entries are listed by number; a number that is struck out, and 0, have none. Lines are
-- listed by the place of their tasks, then by the object's number.
pub record Ledger : Type 0 where
  pub tasks : List (Option TaskEntry)
  pub mutexes : List (Option MutexEntry)
  pub buffers : List (Option ℕ)
  pub pools : List (Option ℕ)
  pub lines : List (List (List ℕ))

unfoldable pub with_task_entry : Ledger → ℕ → Option TaskEntry → Ledger
with_task_entry l t e = record { tasks = set l.tasks t e; mutexes = l.mutexes; buffers = l.buffers; pools = l.pools; lines = l.lines }

unfoldable pub with_mutex_entry : Ledger → ℕ → Option MutexEntry → Ledger
with_mutex_entry l m e = record { tasks = l.tasks; mutexes = set l.mutexes m e; buffers = l.buffers; pools = l.pools; lines = l.lines }

unfoldable pub with_buffer_entry : Ledger → ℕ → Option ℕ → Ledger
with_buffer_entry l b e = record { tasks = l.tasks; mutexes = l.mutexes; buffers = set l.buffers b e; pools = l.pools; lines = l.lines }

unfoldable pub with_pool_entry : Ledger → ℕ → Option ℕ → Ledger
with_pool_entry l p e = record { tasks = l.tasks; mutexes = l.mutexes; buffers = l.buffers; pools = set l.pools p e; lines = l.lines }

unfoldable pub with_lines : Ledger → List (List (List ℕ)) → Ledger
with_lines l x = record { tasks = l.tasks; mutexes = l.mutexes; buffers = l.buffers; pools = l.pools; lines = x }

-- "It starts as the fresh bench." The places absent and dormant have no line.
unfoldable pub fresh_ledger : Ledger
fresh_ledger =
    record {
      tasks = set (replicate (suc tasks) none) 1 (some (record { base = 8; initial = 8; started = true }));
      mutexes = replicate (suc mutexes) none;
      buffers = replicate (suc buffers) none;
      pools = replicate (suc pools) none;
      lines =
          []
          ∷ []
          ∷ ((1 ∷ []) ∷ [])
          ∷ replicate (suc mutexes) []
          ∷ replicate (suc buffers) []
          ∷ replicate (suc buffers) []
          ∷ replicate (suc pools) []
          ∷ [];
    }

-- ---- lines

unfoldable pub line : Ledger → Queue → List ℕ
line l q = get_or (get_or l.lines q.place []) q.object []

-- a task stands in no line
unfoldable pub depart : Ledger → ℕ → Ledger
depart l t = with_lines l (map (map (without t)) l.lines)

-- "Joining puts a task last and takes it from where it stood."
unfoldable pub join : Ledger → ℕ → Queue → Ledger
join l t q =
    let d = depart l t in
    with_lines d (set d.lines q.place (set (get_or d.lines q.place []) q.object (line d q ++ t ∷ [])))

-- "A task's wait is the line it stands in": the line that has a started task
unfoldable pub line_of : Ledger → ℕ → Queue
line_of l t =
    let p = place_where (any (member t)) l.lines in
    queue p (place_where (member t) (get_or l.lines p []))

-- where a task stands: absent, dormant, or in a line
unfoldable pub standing : Ledger → ℕ → Queue
standing l t =
    elim (get_or l.tasks t none)
    [ none ↦ queue absent 0 | some e ↦ elim e.started [ true ↦ line_of l t | false ↦ queue dormant 0 ] ]

-- ---- what priorities and lines are worked out from

-- entries as numbers, 0 for those that are not there
abbrev pub entries : {A : Type 0} → (A → ℕ) → List (Option A) → List ℕ
entries f [] = []
entries f (none ∷ xs) = 0 ∷ entries f xs
entries f (some e ∷ xs) = f e ∷ entries f xs

unfoldable pub ledger_facts : Ledger → Facts
ledger_facts l =
    record {
      base = entries (λ e. e.base) l.tasks;
      place = map (λ t. (standing l t).place) (count_from 0 (suc tasks));
      object = map (λ t. (standing l t).object) (count_from 0 (suc tasks));
      mutex_attribute = entries (λ e. e.attribute) l.mutexes;
      ceiling = entries (λ e. e.ceiling) l.mutexes;
      holder = entries (λ e. e.holder) l.mutexes;
      buffer_attribute = entries (λ a. a) l.buffers;
      pool_attribute = entries (λ a. a) l.pools;
      arrivals = line l;
    }

-- `"Priorities" and "Lines" give current priorities and line orders from this`
unfoldable pub ledger_priorities : Ledger → List ℕ
ledger_priorities l = effectives (ledger_facts l)

unfoldable pub ledger_order : Ledger → Queue → List ℕ
ledger_order l q = order (ledger_facts l) (ledger_priorities l) q

-- "the first ready task runs and makes the next call"; 0 for none
unfoldable pub ledger_runs : Ledger → ℕ
ledger_runs l = head_of (ledger_order l ready_queue)

-- ---- one call

-- a task's entry, or a mutex's, changed where there is one
unfoldable pub on_task : Ledger → ℕ → (TaskEntry → TaskEntry) → Ledger
on_task l t f = with_task_entry l t (Option.map f (get_or l.tasks t none))

unfoldable pub holds : ℕ → MutexEntry → MutexEntry
holds t e = record { attribute = e.attribute; ceiling = e.ceiling; holder = t }

unfoldable pub on_mutex : Ledger → ℕ → (MutexEntry → MutexEntry) → Ledger
on_mutex l m f = with_mutex_entry l m (Option.map f (get_or l.mutexes m none))

-- "it is dormant, its base the initial one, in no line, holding nothing"
unfoldable pub falls_dormant : Ledger → ℕ → Ledger
falls_dormant l t =
    let d = on_task (depart l t) t (λ e. record { base = e.initial; initial = e.initial; started = false }) in
    foldl (λ j m. on_mutex j m (λ e. cond (eqb e.holder t) (holds 0 e) e)) d (up_to mutexes)

-- "sta_tsk: the task is started and joins the ready line."
unfoldable pub starts : Ledger → ℕ → Ledger
starts l t =
    join (on_task l t (λ e. record { base = e.base; initial = e.initial; started = true })) t ready_queue

-- "chg_pri sets the base", 0 for the initial priority
unfoldable pub rebased : ℕ → TaskEntry → TaskEntry
rebased p e = record { base = cond (eqb p 0) e.initial p; initial = e.initial; started = e.started }

-- "the task joins anew where `Lines` says so": in a line by priority, and, by 02, request Five, "only if current and base priority are
-- equal", both as this ledger gives them
unfoldable pub joins_anew : Ledger → ℕ → Bool
joins_anew l t = by_priority (ledger_facts l) (standing l t) && eqb (ledger_priorities l ! t) ((ledger_facts l).base ! t)

unfoldable pub rejoins : Ledger → ℕ → Ledger
rejoins l t = cond (joins_anew l t) (join l t (standing l t)) l

-- "afterwards": in the ledger that has the new base
unfoldable pub changes : Ledger → ℕ → ℕ → Ledger
changes l t p = rejoins (on_task l t (rebased p)) t

-- a call answered with a code that is not negative: "A creation enters the answered number, a task dormant, a mutex free; a
-- deletion strikes it out." Task 0 of chg_pri is the caller.
unfoldable pub answered_with : Ledger → Call → ℕ → Ledger
answered_with l (CreTsk priority) n = with_task_entry l n (some (record { base = number priority; initial = number priority; started = false }))
answered_with l (DelTsk task) n = with_task_entry l (number task) none
answered_with l (StaTsk task) n = starts l (number task)
answered_with l ExtTsk n = l
answered_with l (TerTsk task) n = falls_dormant l (number task)
answered_with l (ChgPri task priority) n = changes l (cond (eqb (number task) 0) (ledger_runs l) (number task)) (number priority)
answered_with l (CreMtx attribute ceiling) n =
    with_mutex_entry l n
    (some (record { attribute = number attribute; ceiling = cond (eqb (number attribute) ceilinged) (number ceiling) 0; holder = 0 }))
answered_with l (DelMtx mutex) n = with_mutex_entry l (number mutex) none
answered_with l (LocMtx mutex timeout) n = on_mutex l (number mutex) (holds (ledger_runs l))
answered_with l (UnlMtx mutex) n = on_mutex l (number mutex) (holds 0)
answered_with l (CreMbf attribute bufsz maxmsz) n = with_buffer_entry l n (some (number attribute))
answered_with l (DelMbf buffer) n = with_buffer_entry l (number buffer) none
answered_with l (SndMbf buffer msgsz timeout) n = l
answered_with l (RcvMbf buffer timeout) n = l
answered_with l (CreMpf attribute count size) n = with_pool_entry l n (some (number attribute))
answered_with l (DelMpf pool) n = with_pool_entry l (number pool) none
answered_with l (GetMpf pool timeout) n = l
answered_with l (RelMpf pool block) n = l
answered_with l Tick n = l

-- the line in which the caller of a call waits; no other call waits
unfoldable pub waits_in : Call → Option Queue
waits_in (LocMtx mutex timeout) = some (queue locking (number mutex))
waits_in (SndMbf buffer msgsz timeout) = some (queue sending (number buffer))
waits_in (RcvMbf buffer timeout) = some (queue receiving (number buffer))
waits_in (GetMpf pool timeout) = some (queue getting (number pool))
waits_in (CreTsk priority) = none
waits_in (DelTsk task) = none
waits_in (StaTsk task) = none
waits_in ExtTsk = none
waits_in (TerTsk task) = none
waits_in (ChgPri task priority) = none
waits_in (CreMtx attribute ceiling) = none
waits_in (DelMtx mutex) = none
waits_in (UnlMtx mutex) = none
waits_in (CreMbf attribute bufsz maxmsz) = none
waits_in (DelMbf buffer) = none
waits_in (CreMpf attribute count size) = none
waits_in (DelMpf pool) = none
waits_in (RelMpf pool block) = none
waits_in Tick = none

-- "A caller that waits joins the line it waits in."
unfoldable pub waiting : Ledger → Call → Ledger
waiting l c = elim (waits_in c) [ none ↦ l | some q ↦ join l (ledger_runs l) q ]

-- "with 0 in a mutex's line, the task holds that mutex; the task joins the ready line"
unfoldable pub ends_wait : Ledger → ℕ × ℤ → Ledger
ends_wait l e =
    let q = standing l e.0 in
    let got = eqb q.place locking && le_z (pos 0) e.1 && le_z e.1 (pos 0) in
    join (cond got (on_mutex l q.object (holds e.0)) l) e.0 ready_queue

-- the ledger after a call: "A call answered with a negative code changes nothing." "Then each ended wait in order"
unfoldable pub entered : Ledger → Call → Answer → List (ℕ × ℤ) → Ledger
entered l c (Code (negsuc e)) ended = l
entered l c (Code (pos n)) ended = foldl ends_wait (answered_with l c n) ended
entered l c Waits ended = foldl ends_wait (waiting l c) ended
entered l c Exits ended = foldl ends_wait (falls_dormant l (ledger_runs l)) ended

-- what has to unfold for the definitions of this file to compute
unfoldable pub compute_ledger : Unit {0}
unfolding with_task_entry with_mutex_entry with_buffer_entry with_pool_entry with_lines fresh_ledger line depart join line_of standing
    ledger_facts ledger_priorities ledger_order ledger_runs on_task holds on_mutex falls_dormant starts rebased joins_anew rejoins changes answered_with
    waits_in waiting ends_wait entered
compute_ledger = tt
