-- `fill` meets its contract: the words passed by are there. Assumes nothing.
use native.Mathlib.Omega.{arith}
use mathlib.Core.Path.{◌∙◌, sym}
use Rattle.verdicts.proofs.WordLaws.{length-words_of, words_of-entry, stored-none, stored-more, stored-all}
use Rattle.verdicts.proofs.words.fill.Goals as goal

pub loop-i-init : goal.loop-i-init
loop-i-init c = stored-none (sym (length-words_of _ _))

pub loop-i-preserved : goal.loop-i-preserved
loop-i-preserved c =
    let s = c.loop-i.invariant.size ∙ length-words_of _ _ in
    stored-more c.loop-i.invariant (omega arith) (c.word.ensures ∙ sym (words_of-entry _ _ _ (omega arith)))

pub returns : goal.returns
returns c =
    let s = c.loop-i.invariant.size ∙ length-words_of _ _ in
    stored-all c.loop-i.invariant (omega arith)
