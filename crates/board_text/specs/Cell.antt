-- What stands in a cell of a table.
use Rattle.std.specs.Prelude.{ℕ, zero, suc, cond, List, [], ◌∷◌, ◌++◌, ℤ, pos, negsuc, eqb}
use Prim.Native.String.{String}
use Rattle.text.specs.Names.{ascii, named}
use Rattle.text.specs.Numbers.{decimal, signed_decimal}
use Rattle.board_text.specs.declared.cell.Cell.{Cell}
use Rattle.board_text.specs.declared.cell.Cell.TheVariants.{Number, Signed, State, Awaited, Time, Task, Length}

-- 0 stands for none
abbrev pub or_dash : ℕ → List ℕ → List ℕ
or_dash n text = cond (eqb n 0) (ascii "-") text

abbrev pub states : List (ℕ × String)
states = (1, "running") ∷ (2, "ready") ∷ (4, "waiting") ∷ (16, "dormant") ∷ []

unfoldable pub state_name : ℕ → List ℕ
state_name state = ascii (named state states)

-- what a task can wait for, by the kind that creates it
abbrev pub objects : List (ℕ × String)
objects = (0x10, "mutex ") ∷ (0x20, "buffer ") ∷ (0x30, "pool ") ∷ []

unfoldable pub object_name : ℕ → List ℕ
object_name kind = ascii (named kind objects)

unfoldable pub awaited_text : ℕ → ℕ → List ℕ
awaited_text kind object = or_dash kind (object_name kind ++ decimal object)

unfoldable pub task_text : ℕ → List ℕ
task_text t = or_dash t (ascii "task " ++ decimal t)

unfoldable pub length_text : ℕ → List ℕ
length_text n = or_dash n (decimal n)

-- milliseconds left; below 0, which is -1, for a wait without end
unfoldable pub time_text : ℤ → List ℕ
time_text (negsuc n) = ascii "endless"
time_text (pos zero) = ascii "-"
time_text (pos (suc n)) = decimal (suc n) ++ ascii " ms"

unfoldable pub cell_text : Cell → List ℕ
cell_text (Number n) = decimal n
cell_text (Signed z) = signed_decimal z
cell_text (State state) = state_name state
cell_text (Awaited kind object) = awaited_text kind object
cell_text (Time left) = time_text left
cell_text (Task t) = task_text t
cell_text (Length n) = length_text n

-- what has to unfold for the definitions of this file to compute
unfoldable pub compute_cell : Unit {0}
unfolding decimal signed_decimal state_name object_name awaited_text task_text length_text time_text cell_text
compute_cell = tt
