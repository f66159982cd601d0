-- Calls by the names of the one table.
use Rattle.std.specs.Prelude.{ℕ, ◌-◌, List, Option, bytes_eq, find}
use Rattle.std.specs.List.{range_with_len}
use Rattle.model.specs.Record.{kind_count}
use Rattle.text.specs.Names.{template}
use Rattle.assemble.specs.Words.{word_at}

-- a kind's call: the first word of its template; none for a kind that no record has
unfoldable pub call_name : ℕ → List ℕ
call_name kind = word_at (template kind) 0

-- the first of all kinds that has a name
unfoldable pub kind_named : List ℕ → Option ℕ
kind_named name = find (λ kind. bytes_eq (call_name kind) name) (range_with_len 1 (kind_count - 1))

-- what has to unfold for the definitions of this file to compute
unfoldable pub compute_calls : Unit {0}
unfolding call_name kind_named
compute_calls = tt
