-- `word` meets its contract: it counts the bytes up to the first that ends a word. Assumes nothing.
use Rattle.std.proofs.Common.{◌∙◌, rules, not, drop, tests, arith}
use Rattle.std.proofs.lemmas.Iterator.{YieldsList-from_slice}
use Rattle.std.proofs.lemmas.Iterator.Consumers.{YieldsList-at, count_from_yields_List}
use Rattle.std.proofs.lemmas.Iterator.Search.{YieldsList-from_take_while}
use Rattle.std.proofs.lemmas.List.Folds.{length-prefix_len}
use Rattle.assemble.specs.Words.{ends_word, word_length, word_at}
use Rattle.assemble.proofs.word.word.Goals as goal

pub returns : goal.returns
unfolding word_length word_at
returns c =
    let line = drop c.args.at c.args.line.now in
    let n = count_from_yields_List c.take_while.result _ c.count-n.ensures.ran
    (YieldsList-from_take_while _ (λ b. not (ends_word b)) (YieldsList-at c.take_while.ensures.source (YieldsList-from_slice line cc))
    c.take_while.ensures.closure c.take_while.ensures.done (λ x b q k. search (rules, tests)))
    ∙ length-prefix_len (λ b. not (ends_word b)) line in
    grind (arith, n)
