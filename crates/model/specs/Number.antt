-- Numbers of objects: "a mutex number can't be passed where a task number belongs". One is made only from a number in its range.
use Rattle.std.specs.Prelude.{ℕ, Option, Some, None, cond, ltb, eqb, ℤ, pos, negsuc}
use Rattle.model.specs.declared.number.Number.{Number}
use Rattle.model.specs.declared.number.Task.{Task}
use Rattle.model.specs.declared.number.Mutex.{Mutex}
use Rattle.model.specs.declared.number.Buffer.{Buffer}
use Rattle.model.specs.declared.number.Pool.{Pool}

abbrev pub TaskNumber : Type 0
TaskNumber = Number Task

abbrev pub MutexNumber : Type 0
MutexNumber = Number Mutex

abbrev pub BufferNumber : Type 0
BufferNumber = Number Buffer

abbrev pub PoolNumber : Type 0
PoolNumber = Number Pool

-- a word, or a call's field, that is a number up to the last; else 0, which names nothing
unfoldable pub word_number : ℕ → ℕ → ℕ
word_number n last = cond (ltb last n) 0 n

unfoldable pub field_number : ℤ → ℕ → ℕ
field_number (pos n) last = word_number n last
field_number (negsuc n) last = 0

-- a number as the type of its kind has it: 0 names nothing; and, of a task, the number that stands for each case
abbrev pub numbered_as : {K : Type 0} → ℕ → Number K
numbered_as n = record { 0 = n; 1 = record {} }

unfoldable pub maybe_number : {K : Type 0} → ℕ → Option (Number K)
maybe_number n = cond (eqb n 0) None (Some (numbered_as n))

abbrev pub maybe_task : ℕ → Option TaskNumber
maybe_task n = maybe_number n

abbrev pub task_word : Option TaskNumber → ℕ
task_word None = 0
task_word (Some n) = n.0

abbrev pub maybe_mutex : ℕ → Option MutexNumber
maybe_mutex n = maybe_number n

abbrev pub maybe_buffer : ℕ → Option BufferNumber
maybe_buffer n = maybe_number n

abbrev pub maybe_pool : ℕ → Option PoolNumber
maybe_pool n = maybe_number n

-- what has to unfold for the definitions of this file to compute
unfoldable pub compute_number : Unit {0}
unfolding word_number field_number maybe_number
compute_number = tt
