-- The table of kinds as the reader and the writer use it.
use Rattle.std.specs.Prelude.{ℕ, ◌*◌, ◌-◌, List, get_or, drop, ℤ, pos, Some, None}
use Rattle.std.specs.Prelude as code
use Rattle.std.proofs.Math.Option.{Option, none, some}
use Rattle.model.specs.declared.call.Call.{Call}
use Rattle.model.specs.declared.call.Call.TheVariants.{Tick}
use Rattle.script.specs.declared.body.Body.{Body}
use Rattle.model.specs.Record.{Row, kinds, lookup, row_of}

-- the parts of a kind's body: the bytes of its fields, and those of its message
abbrev pub split_as : ℕ → ℕ → code.Option Body
split_as fields message = Some (record { fields = fields; message = message })

unfoldable pub body_parts : ℕ → code.Option Body
body_parts kind = elim (row_of kind) [ none ↦ None | some r ↦ split_as (4 * r.fields) (r.body - 4 * r.fields) ]

-- fields by their numbers, 0 beyond the last
abbrev pub field_at : List ℤ → ℕ → ℤ
field_at fs i = get_or fs i (pos 0)

-- the call that a row makes of its fields; tick where there is none
abbrev pub made : Option Row → List ℤ → Call
made none fs = Tick
made (some r) fs = r.call (field_at fs)

-- the call that some rows of the table make of a kind and its fields
unfoldable pub call_in : List Row → ℕ → List ℤ → Call
call_in rows kind = made (lookup kind rows)

-- the rows from cre_mtx on, from cre_mbf on, from cre_mpf on
unfoldable pub from_mutexes : List Row
unfolding kinds
from_mutexes = drop 6 kinds

unfoldable pub from_buffers : List Row
unfolding from_mutexes
from_buffers = drop 4 from_mutexes

unfoldable pub from_pools : List Row
unfolding from_buffers
from_pools = drop 4 from_buffers
