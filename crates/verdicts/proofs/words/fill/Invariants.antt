-- The words passed by are there.
use lib.ListN.{length}
use Rattle.verdicts.specs.Words.{words_of}
use Rattle.verdicts.proofs.WordLaws.{Stored}
use Rattle.verdicts.proofs.words.fill.Given as goal

abbrev pub invariant-loop-i : goal.invariant-loop-i
invariant-loop-i l = Stored (words_of (length l.initial.words) l.bytes) l.words l.i
