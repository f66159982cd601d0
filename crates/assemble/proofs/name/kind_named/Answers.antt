-- `kind_named` meets its contract: the kinds are looked through one by one. Assumes nothing.
use Rattle.std.proofs.Common.{◌∙◌, sym, rules, tests, arith, bytes_eq}
use Rattle.std.proofs.lemmas.Iterator.Search.{find_from_yields_List}
use Rattle.assemble.specs.Calls.{call_name, kind_named}
use Rattle.assemble.proofs.Names.{kinds-shown, found-is}
use Rattle.assemble.proofs.name.kind_named.Goals as goal

pub returns : goal.returns
unfolding kind_named
returns c =
    sym (found-is c.find.result)
    ∙ find_from_yields_List (λ kind. bytes_eq (call_name kind) c.args.name.now) _ _ c.find.result c.find.ensures.ran
    (kinds-shown 1 64 c.new.ensures.start c.new.ensures.end c.new.ensures.exhausted (omega arith)) (λ x b q k. search (rules, tests))
