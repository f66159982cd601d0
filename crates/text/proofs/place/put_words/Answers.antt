-- `put_words` meets its contract. The invariant: what is left is the template from a place on, in the word that stands there. Assumes nothing.
use borrow.Author.Rules.{rules}
use native.Mathlib.Omega.{arith}
use Rattle.text.proofs.Loops.{more-letters, word_on, word_same}
use Rattle.text.proofs.place.put_words.Goals as goal
use Rattle.text.proofs.place.put_words.Goals.{then-c-eq32, else-c-eq32}

pub loop-c-preserved : goal.loop-c-preserved
loop-c-preserved c =
    let l = c.loop-c in
    let t = c.args.template.now in
    let more = more-letters t c.args.body.now l.word l.c-index c.loop-c-test.true l.invariant.0 c.put_letter-next.ensures in
    elim c.if-c-eq32.branch [
      | then-c-eq32 w ↦ (rw (word_on l.word w.if-c-eq32.true w.word-is) more, (omega (arith, w.word-is), search rules))
      | else-c-eq32 w ↦ (rw (word_same w.if-c-eq32.false w.word-is) more, (omega (arith, w.word-is), search rules))
    ]
