-- `entry` meets its contract: the table has the number of each kind's case, which antt computes for all entries at once. Assumes nothing.
use Prim.Native.Nat.{ℕ}
use mathlib.Core.Path.{refl}
use mathlib.Core.List.{List, map}
use lib.ListN.{get_or}
use Rattle.model.specs.Record.{kinds, row_of, body_length, body_entry}
use Rattle.model.specs.Lists.{count_from}
use Rattle.model.proofs.Table.{agree-from-0}
use Rattle.model.proofs.kind.entry.Goals as goal

bodies : List ℕ
bodies = map (λ (k : ℕ). body_entry (body_length k)) (count_from 0 65)

pub returns : goal.returns
unfolding kinds row_of body_length bodies
returns c = agree-from-0 (λ (k : ℕ). get_or bodies k 0) (λ (k : ℕ). body_entry (body_length k)) 65 c.args.kind refl c.requires
