-- "Each record's log, at most 512 bytes": how long logs are. What is to be proved, each as a type; `Theorems` proves them. No state has to be valid.
use Rattle.std.specs.Prelude.{◌+◌, ◌*◌, ◌≤◌}
use Rattle.model.proofs.Terms.{ℕ, List, map, length, leb, tasks, message_bytes, log_bytes, sum, select, occurrences, locking, Kernel, Lent, Delivery, Nothing, Message, Block, Ended, Outcome, step, outcome_log, run, run_script, script_log, Areas, lent_step, lent_record}
use Rattle.model.specs.declared.call.Call.{Call}

-- ---- the log of one record

-- "80 + code (4 bytes) if answered": the longest answer
abbrev pub longest_answer : ℕ
longest_answer = 5

-- "84 + task + 32 bytes (zero filled)": the longest delivery
abbrev pub longest_delivery : ℕ
longest_delivery = 2 + message_bytes

-- "for each wait ended, in order, 83 + task (1) + code (4)"
abbrev pub ended_length : ℕ
ended_length = 6

-- "then 8F + running task (1, 0 for none)"
abbrev pub runs_length : ℕ
runs_length = 2

-- "in one call a task's wait ends at most once"
abbrev pub times_ended : ℕ → List Ended → ℕ
times_ended t es = occurrences t (map (λ e. e.task) es)

abbrev pub EachWaitEndsOnce : Type 0
EachWaitEndsOnce = (x : Lent) (c : Call) (bytes : List ℕ) (t : ℕ) → times_ended t (step x c bytes).ended ≤ 1

-- so no more waits end than there are tasks
abbrev pub FewWaitsEnd : Type 0
FewWaitsEnd = (x : Lent) (c : Call) (bytes : List ℕ) → length (step x c bytes).ended ≤ tasks

-- "and one ended wait delivers": one at most, and none where the answer does
abbrev pub delivers : Delivery → ℕ
delivers Nothing = 0
delivers (Message m) = 1
delivers (Block b) = 1

abbrev pub delivered : List Ended → ℕ
delivered es = sum (map (λ e. delivers e.delivery) es)

abbrev pub deliveries : Outcome → ℕ
deliveries o = delivers o.delivery + delivered o.ended

abbrev pub OneDelivery : Type 0
OneDelivery = (x : Lent) (c : Call) (bytes : List ℕ) → deliveries (step x c bytes) ≤ 1

-- "the bound that the argument gives": an answer, one delivery, an ended wait of each task, the task that runs next
abbrev pub record_log_bytes : ℕ
record_log_bytes = longest_answer + longest_delivery + tasks * ended_length + runs_length

abbrev pub RecordLogIsShort : Type 0
RecordLogIsShort = (caller : ℕ) (x : Lent) (c : Call) (bytes : List ℕ) → length (outcome_log caller (step x c bytes)) ≤ record_log_bytes

-- "Each record's log, at most 512 bytes"
abbrev pub RecordLogFits : Type 0
RecordLogFits = (caller : ℕ) (x : Lent) (c : Call) (bytes : List ℕ) → length (outcome_log caller (step x c bytes)) ≤ log_bytes

-- ---- lent words

-- "Each record's log, at most 512 bytes, goes to the front of a lent area of 512": no more is written than the area holds, so nothing is cut off
abbrev pub LentLogFits : Type 0
LentLogFits = (a : Areas) (c : Call) (bytes : List ℕ) → (lent_step a c bytes).written ≤ length a.log

-- the same for a script at a place, where it stops or is too long as well
abbrev pub LentRecordLogFits : Type 0
LentRecordLogFits = (a : Areas) (script : List ℕ) (at : ℕ) → (lent_record a script at).written ≤ length a.log

-- ---- the log of a script

-- how many tasks wait: those that are in a queue other than the ready queue
abbrev pub waiting : Kernel → ℕ
waiting k = length (select (leb locking) k.tasks.place)

-- what a record logs at most where no wait ends and nothing is delivered; the shortest records are of one byte
abbrev pub bytes_for_one : ℕ
bytes_for_one = longest_answer + runs_length

-- "a whole script's log is at most seven bytes for each byte of script"
abbrev pub ScriptLogIsShort : Type 0
ScriptLogIsShort = (script : List ℕ) → length (script_log script) ≤ bytes_for_one * length script

-- The same from any state, with what the waits that stand there log when they end. A wait that begins later is paid for by the record it begins in.
abbrev pub ScriptLogIsShortFrom : Type 0
ScriptLogIsShortFrom = (x : Lent) (script : List ℕ) → length (run_script x script).log ≤ bytes_for_one * length script + ended_length * waiting x.kernel

-- and of a run of records of any length
abbrev pub RunLogIsShort : Type 0
RunLogIsShort = (x : Lent) (script : List ℕ) → length (run x script).log ≤ bytes_for_one * length script + ended_length * waiting x.kernel
