-- 01, "When the bench says no": for each call the conditions of the table, in its order; the first that applies refuses the
-- call. Order 1 stands in Step. The message bytes are handed over too, whatever the call and however many they are.
use Rattle.std.specs.Prelude.{ℕ, ◌+◌, ◌*◌, Bool, true, false, ◌&&◌, ◌||◌, not, cond, List, [], ◌∷◌, map, drop, ℤ, pos, eqb, ltb}
use Rattle.std.proofs.Math.Option.{Option, none, some}
use Rattle.std.specs.Int.Signed.{lt_z, le_z}
use Rattle.model.specs.declared.call.Call.{Call}
use Rattle.model.specs.declared.call.Call.TheVariants.{CreTsk, DelTsk, StaTsk, ExtTsk, TerTsk, ChgPri, CreMtx, DelMtx, LocMtx, UnlMtx, CreMbf, DelMbf, SndMbf, RcvMbf, CreMpf, DelMpf, GetMpf, RelMpf, Tick}
use Rattle.model.specs.Sizes.{tasks, mutexes, buffers, pools, blocks, priorities, message_bytes, region_bytes, block_bytes, pool_bytes}
use Rattle.model.specs.Lists.{◌!◌, up_to, any, member, sum, first_where, all_zero}
use Rattle.model.specs.Code.{E_CTX, E_RSATR, E_PAR, E_ID, E_NOEXS, E_OBJ, E_ILUSE, E_LIMIT, E_NOMEM, E_TMOUT, minus, number}
use Rattle.model.specs.Facts.{queue, absent, dormant, locking, sending, receiving, ceilinged}
use Rattle.model.specs.Kernel.{Kernel, slot, stands_in}
use Rattle.model.specs.World.{queue_front, heads_queue, running}
use Rattle.model.specs.Message.{handed}
use Rattle.model.specs.Act.{fits, unused}

-- A cell of the table: its order, its code, and whether it applies.
pub record Refusal : Type 0 where
  pub order : ℕ
  pub code : ℤ
  pub applies : Bool

abbrev pub refuse : ℕ → ℤ → Bool → Refusal
refuse n c b = record { order = n; code = c; applies = b }

-- "First that applies"
abbrev pub first_refusal : List Refusal → Option ℤ
first_refusal [] = none
first_refusal (r ∷ rs) = elim r.applies [ true ↦ some r.code | false ↦ first_refusal rs ]

-- a field is below the first number or above the second
abbrev pub outside : ℤ → ℤ → ℤ → Bool
outside low high x = lt_z x low || lt_z high x

-- Order 2: "no task runs and the call is not tick"
unfoldable pub nobody_runs : Kernel → Refusal
nobody_runs k = refuse 2 E_CTX (eqb (running k) 0)

-- Order 3: "mutex attribute not 0 to 3; buffer not 0 or 1; pool not 0 or 1 plus one of 0, 256, 512, 768"
abbrev pub mutex_attributes : List ℕ
mutex_attributes = 0 ∷ 1 ∷ 2 ∷ 3 ∷ []

abbrev pub buffer_attributes : List ℕ
buffer_attributes = 0 ∷ 1 ∷ []

abbrev pub pool_attributes : List ℕ
pool_attributes = 0 ∷ 1 ∷ 256 ∷ 257 ∷ 512 ∷ 513 ∷ 768 ∷ 769 ∷ []

unfoldable pub bad_attribute : List ℕ → ℤ → Refusal
bad_attribute allowed a = refuse 3 E_RSATR (lt_z a (pos 0) || not (member (number a) allowed))

-- Order 4, from the call alone: "timeout ≤ -2", and a field outside its range
unfoldable pub bad_timeout : ℤ → Refusal
bad_timeout timeout = refuse 4 E_PAR (le_z timeout (minus 2))

unfoldable pub bad_field : ℤ → ℤ → ℤ → Refusal
bad_field low high x = refuse 4 E_PAR (outside low high x)

-- 02, request Two: "snd_mbf with msgsz 1 to 32 and a nonzero byte after the first msgsz of its 32 becomes -17, in order 4"; the bytes are the 32
unfoldable pub dirty_tail : ℤ → List ℕ → Refusal
dirty_tail msgsz bytes = refuse 4 E_PAR (not (outside (pos 1) (pos message_bytes) msgsz) && not (all_zero (drop (number msgsz) bytes)))

-- Order 5: "number outside its range"
unfoldable pub bad_number : ℕ → ℤ → Refusal
bad_number last n = refuse 5 E_ID (outside (pos 1) (pos last) n)

-- Order 6: "no such object", from the entries that are 0 where there is none
unfoldable pub no_such : List ℕ → ℤ → Refusal
no_such entries n = refuse 6 E_NOEXS (eqb (entries ! number n) 0)

-- Order 7: "block not handed out by this pool"
unfoldable pub handed_out : Kernel → ℕ → ℤ → Bool
handed_out k p b = not (outside (pos 1) (pos (k.pools.count ! p)) b) && eqb (k.pools.taken ! slot p (number b)) 1

-- Order 8: "task 0 is the caller in chg_pri only"; "0 means the initial priority"
unfoldable pub chosen_task : Kernel → ℤ → ℕ
chosen_task k n = cond (eqb (number n) 0) (running k) (number n)

unfoldable pub chosen_base : Kernel → ℕ → ℤ → ℕ
chosen_base k t p = cond (eqb (number p) 0) (k.tasks.initial ! t) (number p)

-- "a base above the ceiling of a mutex that task holds or waits for"; above is more urgent, a lesser number
unfoldable pub above_ceiling : Kernel → ℕ → ℕ → ℕ → Bool
above_ceiling k base t m =
    eqb (k.mutexes.attribute ! m) ceilinged
    && (eqb (k.mutexes.holder ! m) t || stands_in k (queue locking m) t)
    && ltb base (k.mutexes.ceiling ! m)

-- Order 9: "every number of the kind in use"
unfoldable pub none_free : List ℕ → ℕ → Refusal
none_free entries last = refuse 9 E_LIMIT (eqb (unused entries last) 0)

-- "counts times sizes of live pools"
unfoldable pub pool_sum : Kernel → ℕ
pool_sum k = sum (map (λ p. k.pools.count ! p * k.pools.size ! p) (up_to pools))

-- Order 11: "timeout 0 and the call would wait"
unfoldable pub no_time : ℤ → Bool → Refusal
no_time timeout waits = refuse 11 E_TMOUT (le_z timeout (pos 0) && le_z (pos 0) timeout && waits)

-- "a free mutex is taken, else the caller waits"
unfoldable pub lock_waits : Kernel → ℕ → Bool
lock_waits k m = not (eqb (k.mutexes.holder ! m) 0)

-- "to the first receiver; else, if the caller would head the senders and it fits, stored; else wait"
unfoldable pub storable : Kernel → ℕ → ℕ → Bool
storable k b n = heads_queue k (queue sending b) (running k) && fits k b n

unfoldable pub send_waits : Kernel → ℕ → ℕ → Bool
send_waits k b n = eqb (queue_front k (queue receiving b)) 0 && not (storable k b n)

-- "the oldest stored message, else the first sender's, else wait"
unfoldable pub receive_waits : Kernel → ℕ → Bool
receive_waits k b = eqb (k.buffers.used ! b) 0 && eqb (queue_front k (queue sending b)) 0

-- "the smallest free block, counted from 1, else wait"; 0 if none is free
unfoldable pub free_block : Kernel → ℕ → ℕ
free_block k p = first_where (λ b. eqb (k.pools.taken ! slot p b) 0) (up_to (k.pools.count ! p))

-- The calls' conditions, each list in the table's order.
unfoldable pub cre_tsk_refusals : Kernel → ℤ → List Refusal
cre_tsk_refusals k priority = bad_field (pos 1) (pos priorities) priority ∷ none_free k.tasks.place tasks ∷ []

-- "del_tsk or sta_tsk of a task not dormant"
unfoldable pub dormant_refusals : Kernel → ℤ → List Refusal
dormant_refusals k task =
    bad_number tasks task
    ∷ no_such k.tasks.place task
    ∷ refuse 8 E_OBJ (not (eqb (k.tasks.place ! number task) dormant))
    ∷ []

-- "ter_tsk of a dormant task or the caller"
unfoldable pub ter_tsk_refusals : Kernel → ℤ → List Refusal
ter_tsk_refusals k task =
    bad_number tasks task
    ∷ no_such k.tasks.place task
    ∷ refuse 8 E_OBJ (eqb (k.tasks.place ! number task) dormant || eqb (number task) (running k))
    ∷ []

-- "chg_pri to a base above the ceiling of a mutex that task holds or waits for"
unfoldable pub chg_pri_refusals : Kernel → ℤ → ℤ → List Refusal
chg_pri_refusals k task priority =
    let t = chosen_task k task in
    bad_field (pos 0) (pos priorities) priority
    ∷ refuse 5 E_ID (outside (pos 0) (pos tasks) task)
    ∷ refuse 6 E_NOEXS (eqb (k.tasks.place ! t) absent)
    ∷ refuse 8 E_ILUSE (any (above_ceiling k (chosen_base k t priority) t) (up_to mutexes))
    ∷ []

-- "mutex attribute not 0 to 3"; "ceiling not 1 to 16 with attribute 3"
unfoldable pub cre_mtx_refusals : Kernel → ℤ → ℤ → List Refusal
cre_mtx_refusals k attribute ceiling =
    bad_attribute mutex_attributes attribute
    ∷ refuse 4 E_PAR (eqb (number attribute) ceilinged && outside (pos 1) (pos priorities) ceiling)
    ∷ none_free k.mutexes.exists mutexes
    ∷ []

-- "locking a mutex one holds; caller's base above the ceiling"
unfoldable pub loc_mtx_refusals : Kernel → ℤ → ℤ → List Refusal
loc_mtx_refusals k mutex timeout =
    let m = number mutex in
    let t = running k in
    bad_timeout timeout
    ∷ bad_number mutexes mutex
    ∷ no_such k.mutexes.exists mutex
    ∷ refuse 8 E_ILUSE (eqb (k.mutexes.holder ! m) t)
    ∷ refuse 8 E_ILUSE (eqb (k.mutexes.attribute ! m) ceilinged && ltb (k.tasks.base ! t) (k.mutexes.ceiling ! m))
    ∷ no_time timeout (lock_waits k m)
    ∷ []

-- "unlocking one not held"
unfoldable pub unl_mtx_refusals : Kernel → ℤ → List Refusal
unl_mtx_refusals k mutex =
    bad_number mutexes mutex
    ∷ no_such k.mutexes.exists mutex
    ∷ refuse 8 E_ILUSE (not (eqb (k.mutexes.holder ! number mutex) (running k)))
    ∷ []

-- "buffer not 0 or 1"; "bufsz < 0; maxmsz not 1 to 32"; "bufsz > 256"
unfoldable pub cre_mbf_refusals : Kernel → ℤ → ℤ → ℤ → List Refusal
cre_mbf_refusals k attribute bufsz maxmsz =
    bad_attribute buffer_attributes attribute
    ∷ refuse 4 E_PAR (lt_z bufsz (pos 0))
    ∷ bad_field (pos 1) (pos message_bytes) maxmsz
    ∷ none_free k.buffers.exists buffers
    ∷ refuse 10 E_NOMEM (lt_z (pos region_bytes) bufsz)
    ∷ []

-- "timeout ≤ -2; msgsz ≤ 0"; 02: "a nonzero byte after the first msgsz"; "msgsz > maxmsz"
unfoldable pub snd_mbf_refusals : Kernel → ℤ → ℤ → ℤ → List ℕ → List Refusal
snd_mbf_refusals k buffer msgsz timeout bytes =
    bad_timeout timeout
    ∷ refuse 4 E_PAR (le_z msgsz (pos 0))
    ∷ dirty_tail msgsz bytes
    ∷ bad_number buffers buffer
    ∷ no_such k.buffers.exists buffer
    ∷ refuse 7 E_PAR (lt_z (pos (k.buffers.maxmsz ! number buffer)) msgsz)
    ∷ no_time timeout (send_waits k (number buffer) (number msgsz))
    ∷ []

unfoldable pub rcv_mbf_refusals : Kernel → ℤ → ℤ → List Refusal
rcv_mbf_refusals k buffer timeout =
    bad_timeout timeout
    ∷ bad_number buffers buffer
    ∷ no_such k.buffers.exists buffer
    ∷ no_time timeout (receive_waits k (number buffer))
    ∷ []

-- "count not 1 to 16; block size not 1 to 256"; "the new pool takes the sum above 4,096"
unfoldable pub cre_mpf_refusals : Kernel → ℤ → ℤ → ℤ → List Refusal
cre_mpf_refusals k attribute count size =
    bad_attribute pool_attributes attribute
    ∷ bad_field (pos 1) (pos blocks) count
    ∷ bad_field (pos 1) (pos block_bytes) size
    ∷ none_free k.pools.exists pools
    ∷ refuse 10 E_NOMEM (ltb pool_bytes (pool_sum k + number count * number size))
    ∷ []

unfoldable pub get_mpf_refusals : Kernel → ℤ → ℤ → List Refusal
get_mpf_refusals k pool timeout =
    bad_timeout timeout
    ∷ bad_number pools pool
    ∷ no_such k.pools.exists pool
    ∷ no_time timeout (eqb (free_block k (number pool)) 0)
    ∷ []

unfoldable pub rel_mpf_refusals : Kernel → ℤ → ℤ → List Refusal
rel_mpf_refusals k pool block =
    bad_number pools pool
    ∷ no_such k.pools.exists pool
    ∷ refuse 7 E_PAR (not (handed_out k (number pool) block))
    ∷ []

-- a deletion asks only that the object is there
unfoldable pub deletion_refusals : ℕ → List ℕ → ℤ → List Refusal
deletion_refusals last exists n = bad_number last n ∷ no_such exists n ∷ []

unfoldable pub refusals : Kernel → Call → List ℕ → List Refusal
refusals k (CreTsk priority) bytes = nobody_runs k ∷ cre_tsk_refusals k priority
refusals k (DelTsk task) bytes = nobody_runs k ∷ dormant_refusals k task
refusals k (StaTsk task) bytes = nobody_runs k ∷ dormant_refusals k task
refusals k ExtTsk bytes = nobody_runs k ∷ []
refusals k (TerTsk task) bytes = nobody_runs k ∷ ter_tsk_refusals k task
refusals k (ChgPri task priority) bytes = nobody_runs k ∷ chg_pri_refusals k task priority
refusals k (CreMtx attribute ceiling) bytes = nobody_runs k ∷ cre_mtx_refusals k attribute ceiling
refusals k (DelMtx mutex) bytes = nobody_runs k ∷ deletion_refusals mutexes k.mutexes.exists mutex
refusals k (LocMtx mutex timeout) bytes = nobody_runs k ∷ loc_mtx_refusals k mutex timeout
refusals k (UnlMtx mutex) bytes = nobody_runs k ∷ unl_mtx_refusals k mutex
refusals k (CreMbf attribute bufsz maxmsz) bytes = nobody_runs k ∷ cre_mbf_refusals k attribute bufsz maxmsz
refusals k (DelMbf buffer) bytes = nobody_runs k ∷ deletion_refusals buffers k.buffers.exists buffer
refusals k (SndMbf buffer msgsz timeout) bytes = nobody_runs k ∷ snd_mbf_refusals k buffer msgsz timeout (handed bytes)
refusals k (RcvMbf buffer timeout) bytes = nobody_runs k ∷ rcv_mbf_refusals k buffer timeout
refusals k (CreMpf attribute count size) bytes = nobody_runs k ∷ cre_mpf_refusals k attribute count size
refusals k (DelMpf pool) bytes = nobody_runs k ∷ deletion_refusals pools k.pools.exists pool
refusals k (GetMpf pool timeout) bytes = nobody_runs k ∷ get_mpf_refusals k pool timeout
refusals k (RelMpf pool block) bytes = nobody_runs k ∷ rel_mpf_refusals k pool block
refusals k Tick bytes = []

-- what has to unfold for the definitions of this file to compute
unfoldable pub compute_refusal : Unit {0}
unfolding nobody_runs bad_attribute bad_timeout bad_field dirty_tail bad_number no_such handed_out chosen_task chosen_base above_ceiling none_free
    pool_sum no_time lock_waits storable send_waits receive_waits free_block cre_tsk_refusals dormant_refusals ter_tsk_refusals
    chg_pri_refusals cre_mtx_refusals loc_mtx_refusals unl_mtx_refusals cre_mbf_refusals snd_mbf_refusals rcv_mbf_refusals cre_mpf_refusals
    get_mpf_refusals rel_mpf_refusals deletion_refusals refusals
compute_refusal = tt
