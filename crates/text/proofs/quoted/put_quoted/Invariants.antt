-- `put_quoted` meets its contract. The invariant: what is left is the bytes from a place on, and the quote. Assumes nothing.
use mathlib.Core.Path.{◌≡◌}
use lib.ListN.{length}
use Rattle.text.specs.Quoted.{trimmed}
use Rattle.text.proofs.Loops.{Left, bytes_left}
use Rattle.text.proofs.quoted.put_quoted.Given as goal

abbrev pub invariant-loop-b : goal.invariant-loop-b
invariant-loop-b l = Left l.initial.line l.initial.next (bytes_left (trimmed l.message) 0) l.line l.next (bytes_left (trimmed l.message) l.b-index) × (length l.line ≡ length l.initial.line)
