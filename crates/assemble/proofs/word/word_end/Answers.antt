-- `word_end` meets its contract: the word ends behind its length. Assumes nothing.
use Rattle.std.proofs.Common.{arith, drop, ap, length, length-drop, length-take}
use Rattle.std.proofs.lemmas.List.Folds.{length-prefix_len}
use Rattle.assemble.specs.Words.{word_length, word_at, word_end}
use Rattle.assemble.proofs.word.word_end.Goals as goal

pub overflow_add-result : goal.overflow_add-result
unfolding word_at
overflow_add-result c = omega (arith, ap length c.word.ensures, length-take (word_length c.args.line.now c.args.at) (drop c.args.at c.args.line.now), length-drop c.args.at c.args.line.now)

pub returns : goal.returns
unfolding word_end word_at word_length
returns c = grind (arith, length-prefix_len)
