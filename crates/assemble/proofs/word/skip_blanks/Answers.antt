-- `skip_blanks` meets its contract: it counts the blanks. Assumes nothing.
use Rattle.std.proofs.Common.{◌∙◌, ◌+◌, ℕ, ap, rules, drop, tests}
use Rattle.std.proofs.lemmas.Iterator.{YieldsList-from_slice}
use Rattle.std.proofs.lemmas.Iterator.Consumers.{YieldsList-at, count_from_yields_List}
use Rattle.std.proofs.lemmas.Iterator.Search.{YieldsList-from_take_while}
use Rattle.std.proofs.lemmas.List.Folds.{length-prefix_len}
use Rattle.assemble.specs.Words.{is_blank, word_start}
use Rattle.assemble.proofs.word.skip_blanks.Goals as goal

pub returns : goal.returns
unfolding word_start
returns c =
    let line = drop c.args.at c.args.line.now in
    ap (λ (n : ℕ). c.args.at + n)
    (count_from_yields_List c.take_while.result _ c.count.ensures.ran
    (YieldsList-from_take_while _ is_blank (YieldsList-at c.take_while.ensures.source (YieldsList-from_slice line cc))
    c.take_while.ensures.closure c.take_while.ensures.done (λ x b q k. search (rules, tests)))
    ∙ length-prefix_len is_blank line)
