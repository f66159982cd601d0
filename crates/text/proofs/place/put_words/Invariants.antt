-- `put_words` meets its contract. The invariant: what is left is the template from a place on, in the word that stands there. Assumes nothing.
use Prim.Native.Nat.{◌≤◌}
use mathlib.Core.Path.{◌≡◌}
use lib.ListN.{length, drop}
use Rattle.text.specs.Place.{with_values}
use Rattle.text.proofs.Loops.{Left}
use Rattle.text.proofs.place.put_words.Given as goal

abbrev pub invariant-loop-c : goal.invariant-loop-c
invariant-loop-c l = Left l.initial.line l.at (with_values l.body 0 l.template) l.line l.next (with_values l.body l.word (drop l.c-index l.template)) × ((l.word ≤ l.c-index) × (length l.line ≡ length l.initial.line))
